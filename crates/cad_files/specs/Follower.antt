-- How the rings of a plan are found from its strings alone.
use Rattle.std.specs.Prelude.{◌≡◌, ℕ, ◌≤◌, Bool, not, ◌&&◌, ◌||◌, ◌==◌, List, [], ◌∷◌, length, map, filter, IsPermutation, Some}
use Rattle.std.specs.List.{list_all, flat_map, AllByRecursion, Contains}
use Rattle.geo_exact.specs.Sector.{in_sector}
use Rattle.cad_rows.specs.declared.names.Face.{Face}
use Rattle.cad_rings.specs.Cycle.{Side, opposite}
use Rattle.cad_map.specs.Map.{Map, all_sides, all_corners, position_of, side_of, strings_at, far_end, left_face, right_face, string_sides}
use Rattle.cad_map.specs.Boundaries.{canonical_order}
use Rattle.cad_files.specs.declared.rows.PlanString.{PlanString}

-- ---- Followers

-- each number once, where it stands first
abbrev pub once_each : List ℕ → List ℕ
once_each [] = []
once_each (n ∷ ns) = n ∷ filter (λ k. not (k == n)) (once_each ns)

-- the point may follow the side: it is not the one that the side comes from, and no other string of the side's end lies in the sector there from the point to that one
abbrev pub may_follow : Map → Side → ℕ → Bool
may_follow m s w =
    not (w == s.0) && list_all (λ t. (far_end t s.1 == w)
    || not (in_sector (position_of m s.1) (position_of m w) (position_of m s.0)
    (position_of m (far_end t s.1)))) (strings_at m s.1)

-- the points that follow a side, of those that a string leads to from its end
unfoldable pub followers : Map → Side → List ℕ
followers m s = filter (may_follow m s) (once_each (map (λ t. far_end t s.1) (strings_at m s.1)))

-- ---- Sides with their faces

-- a side with the string that it is of, and its face
pub record LabelledSide : Type 0 where
  pub side : Side
  pub string : ℕ
  pub face : Face

-- both sides of each string, first the one that leads from its first point to its second
abbrev pub labelled_sides : List PlanString → List LabelledSide
labelled_sides strings =
    flat_map (λ s. record { side = side_of s.row; string = s.row.number; face = s.left }
    ∷ record { side = opposite (side_of s.row); string = s.row.number; face = s.right }
    ∷ []) strings

-- ---- Rings

-- the map's rings are the cycles of followers of these strings, each in the face of its sides
pub record HasRingsOf (m : Map) (strings : List PlanString) : Type 0 where
  pub rows : m.strings ≡ map (λ s. s.row) strings
  -- a ring has two points at least
  pub two : AllByRecursion (λ b. 2 ≤ length b.ring) m.boundaries
  -- each side of each string is in one ring, once, and no other side is in any
  pub once : IsPermutation (string_sides m) (all_sides m)
  pub canonical : canonical_order m.boundaries ≡ m.boundaries
  pub followers : AllByRecursion (λ c. Contains (followers m (c.before, c.at)) c.after)
      (all_corners m)
  pub left : AllByRecursion (λ s. left_face m s.row ≡ Some s.left) strings
  pub right : AllByRecursion (λ s. right_face m s.row ≡ Some s.right) strings
