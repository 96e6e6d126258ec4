-- The sides of a plan of which some are taken.
use Rattle.std.specs.Prelude.{◌≡◌, ◌≢◌, ◌<◌, ◌≤◌, ℕ, Bool, true, false, List, [], ◌∷◌, length, map, slice_get, Some}
use Rattle.cad_map.specs.Valid.{EachPair}
use Rattle.cad_files.specs.Cycles.{FollowedSide, plan_side_of, followed_side, AreLinked}
use Rattle.cad_files.specs.declared.sides.PlanSide.{PlanSide}

-- all sides in their order, and of them those that aren't taken
pub record Pool : Type 0 where
  pub all : List PlanSide
  pub left : List FollowedSide

-- the sides that aren't taken, by their flags
abbrev pub untaken_sides : List PlanSide → List Bool → List FollowedSide
untaken_sides [] flags = []
untaken_sides (s ∷ sides) [] = []
untaken_sides (s ∷ sides) (true ∷ flags) = untaken_sides sides flags
untaken_sides (s ∷ sides) (false ∷ flags) = followed_side s ∷ untaken_sides sides flags

-- each side with its flag, no side twice, each with the place of the one after it, and none left before the first place
pub record IsPool (sides : List PlanSide) (flags : List Bool) (first : ℕ) : Type 0 where
  pub flagged : length flags ≡ length sides
  pub once : EachPair (λ a b. a ≢ b) (map plan_side_of sides)
  pub linked : AreLinked sides
  pub begun : first ≤ length sides
  pub before : (k : ℕ) → k < first → slice_get flags k ≡ Some true
