-- A join of two strings at a point, and what it leaves of rings as it was.
use Rattle.std.specs.Prelude.{◌≡◌, ◌≢◌, ◌<◌, Bool, int_lt, ℤ, pos, ◌+ℤ◌, ◌-ℤ◌}
use Rattle.std.specs.List.{Contains}
use Rattle.geo_exact.specs.Position.{Position}
use Rattle.geo_exact.specs.Measure.{doubled_area}
use Rattle.cad_rows.specs.declared.names.Face.{Face}
use Rattle.cad_rows.specs.declared.rows.PointRow.{PointRow}
use Rattle.cad_rings.specs.Cycle.{Ring, Side, anchor_of, sides_of}
use Rattle.cad_map.specs.declared.boundary.Boundary.{Boundary}
use Rattle.cad_map.specs.Map.{Map, position_of, is_positive, is_negative, sum_of_ring}
use Rattle.cad_map.specs.Touched.{Joined, ComesByJoin}
use Rattle.cad_map.specs.Valid.{IsValid}
use Rattle.cad_near.specs.Moves.{is_counted_anew}

-- a valid map led here by this join
pub record JoinsValid (m : Map) (j : Joined) : Type 0 where
  pub before : Map
  pub valid : IsValid before
  pub comes : ComesByJoin before m j

-- twice the area between the sides from a by p to b and the side from a to b
abbrev pub area_of_bend : Position → Position → Position → ℤ
area_of_bend a p b = doubled_area a p +ℤ doubled_area p b -ℤ doubled_area a b

-- a ring along a side is positive or negative as it is round by the point that went, and has its anchor elsewhere
pub record TurnsRound (m : Map) (j : Joined) (s : Side) (ring : Ring) : Type 0 where
  pub positive : is_positive m ring ≡ int_lt (pos 0)
      (sum_of_ring doubled_area m ring +ℤ area_of_bend (position_of m s.0) j.position (position_of m s.1))
  pub negative : is_negative m ring ≡ int_lt
      (sum_of_ring doubled_area m ring +ℤ area_of_bend (position_of m s.0) j.position (position_of m s.1)) (pos 0)
  pub anchor : anchor_of ring < j.point

-- each ring of the face along the side does
abbrev pub TurnsAlong : Map → Face → Joined → Side → Type 0
TurnsAlong m f j s = (b : Boundary) → Contains m.boundaries b → f ≡ b.face
    → Contains (sides_of b.ring) s → TurnsRound m j s b.ring

-- of the two sides by the point and the side between, none is counted at q, or two are
pub record SeesAlike (m : Map) (j : Joined) (q : Position) : Type 0 where
  pub anew : Bool
  pub first : is_counted_anew j.position (position_of m j.first) q (position_of m j.first) ≡ anew
  pub second : is_counted_anew j.position (position_of m j.first) q (position_of m j.second) ≡ anew

-- the rings of the face along the new string turn as round by the point, and all other points see them alike
pub record LeavesJoined (m : Map) (f : Face) (j : Joined) : Type 0 where
  pub forth : TurnsAlong m f j (j.first, j.second)
  pub back : TurnsAlong m f j (j.second, j.first)
  pub points : (p : PointRow) → Contains m.points p → p.number ≢ j.point → SeesAlike m j p.position
