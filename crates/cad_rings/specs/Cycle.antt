-- A ring is a cyclic list of point numbers, written from any of its points on.
use Rattle.std.specs.Prelude.{◌≡◌, ℕ, ◌≤◌, min, Bool, ◌&&◌, ◌==◌, List, [], ◌∷◌, ◌++◌, take, drop, length, map, fold, count_by, reverse, slice_index, find, Option, option_map}
use Rattle.std.specs.List.{list_any}
use Rattle.geo_exact.specs.Position.{Position}
use Rattle.geo_exact.specs.Measure.{Measure, sum_over}
use Rattle.std.specs.Prelude.{ℤ}

-- point numbers, of which the first follows the last
abbrev pub Ring : Type 0
Ring = List ℕ

-- ---- Sides

-- an ordered pair of neighbouring points, with the parcel to its left
abbrev pub Side : Type 0
Side = ℕ × ℕ

-- the two sides have the same points in the same order
abbrev pub is_side : Side → Side → Bool
is_side s t = (s.0 == t.0) && (s.1 == t.1)

-- the side is one of these
abbrev pub has_side : Side → List Side → Bool
has_side s sides = list_any (is_side s) sides

-- the side as the parcel on its other hand has it
abbrev pub opposite : Side → Side
opposite s = (s.1, s.0)

-- the sides along a, the points after it, and z
abbrev pub sides_along : ℕ → List ℕ → ℕ → List Side
sides_along a [] z = (a, z) ∷ []
sides_along a (b ∷ points) z = (a, b) ∷ sides_along b points z

-- the sides of a ring, of which the last leads back to the first point
abbrev pub sides_of : Ring → List Side
sides_of [] = []
sides_of (a ∷ points) = sides_along a points a

-- how many times a ring goes along a side
abbrev pub times_along : Side → Ring → ℕ
times_along s ring = count_by (is_side s) (sides_of ring)

-- how many times a ring passes a point
abbrev pub times_through : ℕ → Ring → ℕ
times_through p ring = count_by (λ q. q == p) ring

-- ---- Corners

-- a point of a ring, with the one before it and the one after it
pub record Corner : Type 0 where
  pub before : ℕ
  pub at : ℕ
  pub after : ℕ

-- the corner as the ring in the other direction has it
abbrev pub corner_back : Corner → Corner
corner_back c = record { before = c.after; at = c.at; after = c.before }

-- the corners along a, b and the points after them
abbrev pub corners_along : ℕ → ℕ → List ℕ → List Corner
corners_along a b [] = []
corners_along a b (c ∷ points) = record { before = a; at = b; after = c } ∷ corners_along b c points

-- the corners of a ring, of which the last is at the first point
abbrev pub corners_of : Ring → List Corner
corners_of [] = []
corners_of (a ∷ []) = []
corners_of (a ∷ b ∷ points) = corners_along a b (points ++ a ∷ b ∷ [])

-- the point that the ring passes after a side: of several times that it goes along it, after the first
abbrev pub after_side : Side → Ring → Option ℕ
after_side s ring = option_map (λ c. c.after) (find (λ c. is_side s (c.before, c.at)) (corners_of ring))

-- ---- One ring, written from any of its points

-- the ring from its place i on
abbrev pub turned : ℕ → Ring → Ring
turned i ring = drop i ring ++ take i ring

-- the corner at place i of a ring of two points or more
abbrev pub corner_at : ℕ → Ring → Corner
corner_at i ring = record { before = slice_index (reverse (turned i ring)) 0; at = slice_index ring i; after = slice_index (turned i ring) 1 }

-- the same cyclic list
pub record IsSameRing (old new : Ring) : Type 0 where
  pub place : ℕ
  pub within : place ≤ length old
  pub is : new ≡ turned place old

-- the least of its point numbers
abbrev pub anchor_of : Ring → ℕ
anchor_of [] = 0
anchor_of (a ∷ points) = fold min a points

-- ---- Sums

-- the positions at the ends of sides
abbrev pub placed : (ℕ → Position) → List Side → List (Position × Position)
placed position sides = map (λ s. (position s.0, position s.1)) sides

-- the measures of a ring's sides, added up
abbrev pub ring_sum : Measure → (ℕ → Position) → Ring → ℤ
ring_sum f position ring = sum_over f (placed position (sides_of ring))
