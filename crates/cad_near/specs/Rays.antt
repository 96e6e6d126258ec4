-- The strings of a point as it sees them.
use Rattle.std.specs.Prelude.{ℕ, Bool, not, List, map, ◌≡◌, IsPermutation}
use Rattle.geo_exact.specs.Position.{Position}
use Rattle.geo_exact.specs.Sector.{in_sector}
use Rattle.cad_rows.specs.declared.rows.StringRow.{StringRow}
use Rattle.cad_map.specs.Map.{Map, position_of, far_end, strings_at}
use Rattle.cad_map.specs.declared.stars.Spoke.{Spoke}
use Rattle.cad_near.specs.declared.rays.Ray.{Ray}

-- a string as one of its ends sees it: the other end, and where that lies
abbrev pub ray_of : Map → ℕ → StringRow → Ray
ray_of m p s = record { far = far_end s p; position = position_of m (far_end s p) }

-- its far point lies there
abbrev pub IsPlacedRay : Map → Ray → Type 0
IsPlacedRay m ray = ray.position ≡ position_of m ray.far

-- these are all strings of a point, in some order
pub record AreRaysOf (m : Map) (p : ℕ) (rays : List Ray) : Type 0 where
  pub strings : List StringRow
  pub each : IsPermutation (strings_at m p) strings
  pub seen : rays ≡ map (ray_of m p) strings

-- the ray doesn't lie in the sector of a corner
abbrev pub is_clear_of_ray : Position → Position → Position → Ray → Bool
is_clear_of_ray at after before r = not (in_sector at after before r.position)

-- the ray along a spoke
abbrev pub ray_along : Spoke → Ray
ray_along x = record { far = x.far; position = x.position }

-- these spokes are all strings of a point, in some order
pub record AreSpokesOf (m : Map) (p : ℕ) (spokes : List Spoke) : Type 0 where
  pub rays : List Ray
  pub are : AreRaysOf m p rays
  pub each : IsPermutation rays (map ray_along spokes)
