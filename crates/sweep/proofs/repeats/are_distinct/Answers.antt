use Rattle.std.proofs.Common.{◌≡◌, ◌≢◌, ℕ, List, Bool, true, false, eqb, ltb, sym, arith, rules}
use Rattle.std.specs.Bool.{OnTrue}
use Rattle.std.specs.List.{AllPairs, IsAllAdjacentAnswer}
use Rattle.std.specs.List.Sorted.{IsPermutation, IsStrictlyIncreasing}
use Rattle.std.proofs.lemmas.Bool.Decides.{Decides-eqb, nat_tests}
use Rattle.std.proofs.lemmas.Cmp.{nat_eq_equiv}
use Rattle.std.proofs.lemmas.List.Kept.{AllPairs-from_increasing}
use Rattle.std.proofs.lemmas.List.Sorted.{IsPermutation-sym, answers_always}
use Rattle.std.proofs.lemmas.Map.Keys.{IsDistinct-IsPermutation}
use Rattle.std.proofs.lemmas.Map.Made.{AllPairs-from_IsDistinct, IsDistinct-from_AllPairs}
use Rattle.sweep.specs.Repeats.{AreDistinct}
use Rattle.sweep.proofs.repeats.are_distinct.Goals as goal

-- keys that rise once they are sorted are distinct
rising : (keys sorted : List ℕ) → IsPermutation keys sorted → IsStrictlyIncreasing sorted → AreDistinct keys
rising keys sorted moved rise =
    let less = AllPairs-from_increasing sorted rise in
    let apart : AllPairs (λ a b. a ≢ b) sorted = λ i j d lt within. let l = less i j d lt within in (λ is. omega (arith, l, is)) in
    AllPairs-from_IsDistinct Decides-eqb keys
    (IsDistinct-IsPermutation eqb nat_eq_equiv.symm sorted keys (IsPermutation-sym keys sorted moved) (IsDistinct-from_AllPairs Decides-eqb sorted apart))

told : (b : Bool) (keys sorted : List ℕ) → IsPermutation keys sorted → IsAllAdjacentAnswer (λ x y b. b ≡ ltb x y) sorted b → OnTrue b (AreDistinct keys)
told true keys sorted moved each = rising keys sorted moved (λ k within. let less = each k 0 within in grind (arith, nat_tests))
told false keys sorted moved some = tt

pub returns : goal.returns
returns c =
    let each = c.is_sorted_by.ensures.cases (λ a b. ltb a b) (answers_always _ _ _ (λ f a r g called. search rules)) in
    told c.is_sorted_by.result c.args.keys.now c.deref.result.now
    (rw (c.deref.ensures.value, sym c.in_ok-sorted.ensures.items) c.sort_unstable.ensures.permutation) each
