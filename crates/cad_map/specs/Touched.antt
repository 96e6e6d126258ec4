-- What an edit touched: whatever isn't named stands after it as it stood before.
use Rattle.std.specs.Prelude.{◌≡◌, ◌≢◌, ℕ, ◌≤◌, ◌==◌, ◌↔◌, List, filter, map, ◌⊎◌, IsTrue, Option, IfSome}
use Rattle.std.specs.List.{AllByRecursion, Contains}
use Rattle.geo_exact.specs.Position.{Position}
use Rattle.cad_rows.specs.declared.rows.StringRow.{StringRow}
use Rattle.cad_rows.specs.declared.names.Face.{Face}
use Rattle.cad_rings.specs.Cycle.{Corner, times_through}
use Rattle.cad_rings.specs.Surgery.{corner, without}
use Rattle.cad_map.specs.declared.boundary.Boundary.{Boundary}
use Rattle.cad_map.specs.Boundaries.{bounding, canonical_order}
use Rattle.cad_map.specs.Map.{Map, has_point, has_face, position_of, strings_at, far_end, rings_of, all_corners}

-- A point that was moved, and where it lay. One that came between the ends of a string counts as
-- moved from where the first of them lies.
pub record Moved : Type 0 where
  pub point : ℕ
  pub from : Position

-- a point that went from between two others, which one string joins then, and where it lay
pub record Joined : Type 0 where
  pub point : ℕ
  pub position : Position
  pub first : ℕ
  pub second : ℕ

-- points, strings and faces; of a move or a split what was moved, and of a join what was joined
pub record Touched : Type 0 where
  pub points : List ℕ
  pub strings : List ℕ
  pub faces : List Face
  pub moved : Option Moved
  pub joined : Option Joined

-- the points at the other ends of a point's strings
abbrev pub neighbours : Map → ℕ → List ℕ
neighbours m p = map (λ s. far_end s p) (strings_at m p)

abbrev pub corners_at : Map → ℕ → List Corner
corners_at m p = filter (λ c. c.at == p) (all_corners m)

-- the point was there, at the same position, with the same strings and corners
pub record PointStands (old new : Map) (p : ℕ) : Type 0 where
  pub there : IsTrue (has_point old p)
  pub position : position_of new p ≡ position_of old p
  pub strings : (q : ℕ) → Contains (neighbours new p) q ↔ Contains (neighbours old p) q
  pub corners : (c : Corner) → Contains (corners_at new p) c ↔ Contains (corners_at old p) c

-- the string was there, with the same ends at the same positions
pub record StringStands (old new : Map) (s : StringRow) : Type 0 where
  pub before : StringRow
  pub there : Contains old.strings before
  pub number : before.number ≡ s.number
  pub from : before.from ≡ s.from
  pub to : before.to ≡ s.to
  pub from_position : position_of new s.from ≡ position_of old s.from
  pub to_position : position_of new s.to ≡ position_of old s.to

-- the face was there, with the same rings of points at the same positions
pub record FaceStands (old new : Map) (f : Face) : Type 0 where
  pub there : IsTrue (has_face old f)
  pub rings : rings_of new f ≡ rings_of old f
  pub positions : AllByRecursion (λ ring. AllByRecursion (λ p. position_of new p ≡ position_of old p) ring) (rings_of old f)

-- the point lay there, all others lie where they lay, and parcels and rings are those that were
pub record ComesByMove (old new : Map) (v : Moved) : Type 0 where
  pub from : position_of old v.point ≡ v.from
  pub elsewhere : (p : ℕ) → p ≢ v.point → position_of new p ≡ position_of old p
  pub parcels : new.parcels ≡ old.parcels
  pub boundaries : new.boundaries ≡ old.boundaries

-- One map has a point between a and b, and the other goes straight there: all other points lie in
-- the same places, and its rings are the same without the point.
pub record GoesStraight (bent straight : Map) (p a b : ℕ) : Type 0 where
  pub first_other : a ≢ p
  pub second_other : b ≢ p
  pub elsewhere : (q : ℕ) → q ≢ p → position_of straight q ≡ position_of bent q
  pub parcels : straight.parcels ≡ bent.parcels
  pub corners : (c : Corner) → Contains (all_corners bent) c → c.at ≡ p
      → (c ≡ corner a p b) ⊎ (c ≡ corner b p a)
  pub once : (r : Boundary) → Contains bent.boundaries r → times_through p r.ring ≤ 1
  pub boundaries : canonical_order (map (λ r. bounding r.face (without p r.ring)) bent.boundaries)
      ≡ straight.boundaries

-- the point came between the ends of a string, of which the first lies where the point is said to have lain
pub record ComesBySplit (old new : Map) (v : Moved) : Type 0 where
  pub first : ℕ
  pub second : ℕ
  pub from : position_of old first ≡ v.from
  pub straight : GoesStraight new old v.point first second

-- the point lay there, and went
pub record ComesByJoin (old new : Map) (j : Joined) : Type 0 where
  pub lay : position_of old j.point ≡ j.position
  pub straight : GoesStraight old new j.point j.first j.second

-- between the two maps no more was touched than this
pub record IsTouched (old new : Map) (t : Touched) : Type 0 where
  pub points : (p : ℕ) → IsTrue (has_point new p) → Contains t.points p ⊎ PointStands old new p
  pub strings : AllByRecursion (λ s. Contains t.strings s.number ⊎ StringStands old new s) new.strings
  pub faces : (f : Face) → IsTrue (has_face new f) → Contains t.faces f ⊎ FaceStands old new f
  pub moved : IfSome t.moved (λ v. ComesByMove old new v ⊎ ComesBySplit old new v)
  pub joined : IfSome t.joined (ComesByJoin old new)
