-- No ring of a map stands twice.
use Rattle.std.proofs.Common.{◌≤◌, List, [], ◌∷◌, length, arith}
use Rattle.std.specs.Prelude.{IsPermutation, flat_map}
use Rattle.std.specs.List.{Contains}
use Rattle.std.proofs.lemmas.List.Sums.{sum_by-cons}
use Rattle.std.proofs.lemmas.List.Sorted.{IsPermutation-sym, Contains-permutation, sum_by-IsPermutation}
use Rattle.cad_rings.specs.Cycle.{Ring, Side, is_side, sides_along, sides_of}
use Rattle.cad_map.specs.declared.boundary.Boundary.{Boundary}
use Rattle.cad_map.specs.Map.{Map, all_sides}
use Rattle.cad_map.specs.Rings.{HasWholeRings}
use Rattle.cad_map.proofs.CallerLemmas.{Contains-first, Contains-flat_map, All-at_each, once-from_pairs, times, times-flat_map, count-some, is_side-refl}

-- a ring of three points has a side
pub first-side : (r : Ring) → 3 ≤ length r → (s : Side) × Contains (sides_of r) s
first-side [] long = absurd (omega (arith, long))
first-side (a ∷ []) long = absurd (omega (arith, long))
first-side (a ∷ b ∷ points) long = ((a, b), Contains-first (a, b) (sides_along b points a))

module _ (m : Map) (whole : HasWholeRings m) where
  sides : Boundary → List Side
  sides b = sides_of b.ring

  -- a ring that stands twice would have its sides twice
  pub stands-once : (b : Boundary) (rest : List Boundary) → IsPermutation m.boundaries (b ∷ rest) → Contains rest b → ⊥
  unfolding sides
  stands-once b rest same again =
      let long = All-at_each (λ b. 3 ≤ length b.ring) m.boundaries b whole.v5.three (Contains-permutation (b ∷ rest) m.boundaries b (IsPermutation-sym m.boundaries (b ∷ rest) same) (Contains-first b rest)) in
      let s = first-side b.ring long in
      let few = once-from_pairs (all_sides m) whole.once s.0 in
      let whole_count = times-flat_map s.0 sides m.boundaries in
      let moved = sum_by-IsPermutation (λ c. times s.0 (sides c)) m.boundaries (b ∷ rest) same in
      let split = sum_by-cons (λ c. times s.0 (sides c)) b rest in
      let here = count-some (is_side s.0) (sides b) s.0 s.1 (is_side-refl s.0) in
      let rest_count = times-flat_map s.0 sides rest in
      let there = count-some (is_side s.0) (flat_map sides rest) s.0 (Contains-flat_map sides rest b s.0 again s.1) (is_side-refl s.0) in
      omega (arith, few, whole_count, moved, split, here, rest_count, there)
