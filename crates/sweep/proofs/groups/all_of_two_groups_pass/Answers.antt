use Rattle.std.proofs.Common.{length}
use Rattle.std.proofs.lemmas.Bool.{OnTrue_at, OnTrue_from, OnFalse_at, OnFalse_from}
use Rattle.std.proofs.lemmas.Result.{IfOk-weaker}
use Rattle.sweep.proofs.PartFacts.{of-parts, some-fails}
use Rattle.sweep.proofs.groups.all_of_two_groups_pass.Goals as goal

pub returns-clause-passed : goal.returns-clause-passed
returns-clause-passed g c =
    let test = g.T.PairTest.passes c.args.test.now in
    let each = rw (c.as_slice.ensures.value, c.as_slice-2.ensures.value) at c.in_ok-parts.ensures.each in
    let all = of-parts test _ c.by_groups.result.items c.by_groups.ensures c.args.extents.items c.args.groups.items each in
    IfOk-weaker c.passes_within.result _ _ (λ b h. OnTrue_from b _ (λ is. all (OnTrue_at is h))) c.passes_within.ensures.passed

pub returns-clause-failed : goal.returns-clause-failed
returns-clause-failed g c =
    let test = g.T.PairTest.passes c.args.test.now in
    let below = rw c.as_slice.ensures.value at c.in_ok-parts.ensures.below in
    let some = some-fails test _ c.by_groups.result.items c.by_groups.ensures (length c.args.extents.items) below in
    IfOk-weaker c.passes_within.result _ _ (λ b h. OnFalse_from b _ (λ is. some (OnFalse_at is h))) c.passes_within.ensures.failed
