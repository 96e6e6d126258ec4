-- Sides, each with the point that follows it, and the rings that they make.
use Rattle.std.specs.Prelude.{◌≡◌, ◌≢◌, ℕ, List, [], ◌∷◌, map, slice_get, Some}
use Rattle.std.specs.List.{flat_map, AllByRecursion, Contains}
use Rattle.cad_rows.specs.declared.names.Face.{Face}
use Rattle.cad_rings.specs.Cycle.{Side, Corner, corners_of}
use Rattle.cad_map.specs.declared.boundary.Boundary.{Boundary}
use Rattle.cad_map.specs.Map.{Map}
use Rattle.cad_map.specs.Valid.{EachPair}
use Rattle.cad_files.specs.Follower.{followers, LabelledSide, labelled_sides}
use Rattle.cad_files.specs.declared.rows.PlanString.{PlanString}
use Rattle.cad_files.specs.declared.sides.PlanSide.{PlanSide}

-- ---- Sides and the points that follow them

-- a side with the point that follows it and the face to its left
pub record FollowedSide : Type 0 where
  pub from : ℕ
  pub to : ℕ
  pub after : ℕ
  pub face : Face

abbrev pub side_of_followed : FollowedSide → Side
side_of_followed s = (s.from, s.to)

-- the side that comes after it
abbrev pub side_behind : FollowedSide → Side
side_behind s = (s.to, s.after)

-- the corner at its end
abbrev pub corner_of : FollowedSide → Corner
corner_of s = record { before = s.from; at = s.to; after = s.after }

-- the side after this one is among these, with the same face
pub record HasNext (sides : List FollowedSide) (s : FollowedSide) : Type 0 where
  pub next : FollowedSide
  pub among : Contains sides next
  pub behind : side_of_followed next ≡ side_behind s
  pub face : next.face ≡ s.face

-- sides of which each leads to another one with its face, and no two to the same one
pub record AreFollowed (sides : List FollowedSide) : Type 0 where
  -- no side stands twice
  pub once : EachPair (λ a b. a ≢ b) (map side_of_followed sides)
  -- two sides to the same point have different followers
  pub apart : EachPair (λ a b. a ≢ b) (map side_behind sides)
  pub next : AllByRecursion (HasNext sides) sides
  pub ends : AllByRecursion (λ s. s.from ≢ s.to) sides

-- ---- The sides of a plan

-- a side with its face
abbrev pub side_and_face : FollowedSide → Side × Face
side_and_face s = (side_of_followed s, s.face)

abbrev pub labelled_side_and_face : LabelledSide → Side × Face
labelled_side_and_face s = (s.side, s.face)

-- both sides of each string in their order, each with its face and its one follower
pub record AreSidesOf (m : Map) (strings : List PlanString) (sides : List FollowedSide) : Type 0 where
  pub labels : map side_and_face sides ≡ map labelled_side_and_face (labelled_sides strings)
  pub followers : AllByRecursion (λ s. followers m (side_of_followed s) ≡ s.after ∷ []) sides

abbrev pub plan_side_of : PlanSide → Side
plan_side_of s = (s.from, s.to)

-- the side without its string, and without the place of the next one
abbrev pub followed_side : PlanSide → FollowedSide
followed_side s = record { from = s.from; to = s.to; after = s.after; face = s.face }

-- of each of these the side after it stands among them, at the place that it tells
abbrev pub AreLinked : List PlanSide → Type 0
AreLinked sides =
    AllByRecursion (λ s. slice_get (map plan_side_of sides) s.next ≡ Some (s.to, s.after)) sides

-- ---- Rings

-- the sides of a ring, each with the point after it and the ring's face
abbrev pub followed_of : Boundary → List FollowedSide
followed_of b =
    map (λ (c : Corner). record { from = c.before; to = c.at; after = c.after; face = b.face })
    (corners_of b.ring)

-- those of all these rings
abbrev pub followed_in : List Boundary → List FollowedSide
followed_in bs = flat_map followed_of bs
