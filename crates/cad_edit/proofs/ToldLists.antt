-- What a list was told of its numbers is what the test of them finds.
use Rattle.std.proofs.Common.{◌≡◌, ◌≢◌, ◌∙◌, ℕ, List, Bool, true, false, refl, sym}
use Rattle.std.specs.Prelude.{IsTrue, ◌↔◌}
use Rattle.std.specs.List.{AllPairs}
use Rattle.cad_map.specs.Chain.{are_distinct}
use Rattle.cad_map.proofs.CallerLemmas.{AllPairs-from_EachPair, EachPair-from_AllPairs, distinct-from_pairs, pairs-from_distinct}

pub told-distinct : (xs : List ℕ) (told : Bool) → (IsTrue told ↔ AllPairs (λ x y. x ≢ y) xs) → told ≡ are_distinct xs
told-distinct xs true is = sym (distinct-from_pairs xs (EachPair-from_AllPairs (λ (x y : ℕ). x ≢ y) xs (is.0 refl)))
told-distinct xs false is = by (are_distinct xs) refl
  where
    by : (b : Bool) → are_distinct xs ≡ b → false ≡ are_distinct xs
    by true so = is.1 (AllPairs-from_EachPair (λ (x y : ℕ). x ≢ y) xs (pairs-from_distinct xs so)) ∙ sym so
    by false so = sym so
