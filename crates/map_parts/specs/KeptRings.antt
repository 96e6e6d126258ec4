-- The rings of a map as the cycles of a table of half-edges, one half kept of each.
use Rattle.std.specs.Prelude.{◌≡◌, List, map, IsPermutation}
use Rattle.std.specs.List.{Contains, AllByRecursion}
use Rattle.cad_rows.specs.declared.names.Face.{Face}
use Rattle.cad_rings.specs.Cycle.{sides_of, IsSameRing}
use Rattle.cad_map.specs.declared.boundary.Boundary.{Boundary}
use Rattle.cad_map.specs.Boundaries.{bounding}
use Rattle.cad_map.specs.Map.{Map}
use Rattle.half_table.specs.declared.half.Half.{Half}
use Rattle.half_table.specs.Rows.{HalfRows, origin_of, cycle}
use Rattle.cad_laws.specs.Local.{IsShown, side_by}

-- the points along the cycle of the half are a ring of the map, which has its side
pub record IsRingOf (m : Map) (rows : HalfRows) (h : Half) : Type 0 where
  pub boundary : Boundary
  pub there : Contains m.boundaries boundary
  pub has : Contains (sides_of boundary.ring) (side_by rows h)
  pub same : IsSameRing boundary.ring (map (origin_of rows) (cycle rows h))

-- the ring along the cycle of a half, in a face
abbrev pub kept_ring : HalfRows → Face × Half → Boundary
kept_ring rows k = bounding k.0 (map (origin_of rows) (cycle rows k.1))

-- the half leads along a side of the ring that is its home, and is kept for that ring's face
pub record IsKept (m : Map) (rows : HalfRows) (homes : Half → Boundary) (k : Face × Half) : Type 0 where
  pub is_shown : IsShown m k.1
  pub there : Contains m.boundaries (homes k.1)
  pub has : Contains (sides_of (homes k.1).ring) (side_by rows k.1)
  pub face : (homes k.1).face ≡ k.0

-- one half of each ring of the map, with its face
pub record KeepsRings (m : Map) (rows : HalfRows) (ks : List (Face × Half)) : Type 0 where
  pub homes : Half → Boundary
  pub each : AllByRecursion (IsKept m rows homes) ks
  pub all : IsPermutation (map (λ (k : Face × Half). homes k.1) ks) m.boundaries
