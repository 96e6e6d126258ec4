use Rattle.std.proofs.Common.{rules}
use Rattle.std.proofs.lemmas.List.Sorted.{answers_always}
use Rattle.sweep.specs.declared.repeats.Keyed.{Keyed}
use Rattle.sweep.proofs.SortedKeys.{IsSorting, first_from_least, distinct_from_none}
use Rattle.sweep.proofs.repeats.first_repeated.Goals as goal

sorted : (c : goal.After-drop-keyed) → IsSorting c.args.keys.now c.as_slice.result.now
sorted c = rw c.as_slice.ensures.value record {
  moved = rw (← c.in_ok-keyed.ensures) c.sort_unstable_by_key.ensures.permutation;
  up = c.sort_unstable_by_key.ensures.sorted (λ (k : Keyed). record { 0 = k.key; 1 = k.place }) (answers_always _ _ _ (λ f a r g called. search rules));
}

pub returns-clause-some : goal.returns-clause-some
returns-clause-some c =
    first_from_least c.args.keys.now c.as_slice.result.now (sorted c) c.least_behind_equal.result c.least_behind_equal.ensures.some c.least_behind_equal.ensures.least

pub returns-clause-none : goal.returns-clause-none
returns-clause-none c = distinct_from_none c.args.keys.now c.as_slice.result.now (sorted c) c.least_behind_equal.result c.least_behind_equal.ensures.least
