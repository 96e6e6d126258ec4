-- Points that are walked along, and what is closed on the way.
use Rattle.std.specs.Prelude.{◌≡◌, ◌≢◌, ℕ, ◌++◌, List, [], ◌∷◌, flat_map, IsPermutation}
use Rattle.std.specs.List.{AllByRecursion}
use Rattle.cad_rings.specs.Cycle.{Ring, Side, sides_along, sides_of}
use Rattle.cad_map.specs.Valid.{EachPair}
use Rattle.cad_views.specs.Cut.{IsSimple}

-- the sides along these points, and on to z
abbrev pub sides_to : List ℕ → ℕ → List Side
sides_to [] z = []
sides_to (a ∷ points) z = sides_along a points z

-- the first point, if there is one
abbrev pub first_of : List ℕ → List ℕ
first_of [] = []
first_of (a ∷ points) = a ∷ []

-- points that were walked along: a path that is still open, and rings that were closed
pub record IsWalked (done path : List ℕ) (pieces : List Ring) : Type 0 where
  pub sides : (z : ℕ) → IsPermutation (sides_to done z) (sides_to path z ++ flat_map sides_of pieces)
  pub first : first_of path ≡ first_of done
  pub distinct : EachPair (λ a b. a ≢ b) path
  pub simple : AllByRecursion IsSimple pieces

-- no side up to z leads from a point to itself
abbrev pub HaveTwoEnds : List ℕ → ℕ → Type 0
HaveTwoEnds points z = AllByRecursion (λ (s : Side). s.0 ≢ s.1) (sides_to points z)
