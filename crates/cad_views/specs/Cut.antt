-- What rings are cut into where they pass a point twice.
use Rattle.std.specs.Prelude.{◌≢◌, ◌≤◌, List, flat_map, IsPermutation, length}
use Rattle.std.specs.List.{AllByRecursion}
use Rattle.cad_rings.specs.Cycle.{Ring, Side, sides_of}
use Rattle.cad_map.specs.Valid.{EachPair}

-- no point stands twice, and there are at least two
pub record IsSimple (ring : Ring) : Type 0 where
  pub distinct : EachPair (λ a b. a ≢ b) ring
  pub two : 2 ≤ length ring

-- rings with the same sides, each as often, none of which passes a point twice
pub record AreCutFrom (rings pieces : List Ring) : Type 0 where
  pub sides : IsPermutation (flat_map sides_of rings) (flat_map sides_of pieces)
  pub simple : AllByRecursion IsSimple pieces

-- no side of the ring leads from a point to itself
abbrev pub HasTwoEndsEach : Ring → Type 0
HasTwoEndsEach ring = AllByRecursion (λ (s : Side). s.0 ≢ s.1) (sides_of ring)
