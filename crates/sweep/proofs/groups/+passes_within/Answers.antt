use Rattle.std.proofs.lemmas.Bool.{OnTrue_at, OnTrue_from, OnFalse_at, OnFalse_from}
use Rattle.std.proofs.lemmas.Result.{IfOk-weaker}
use Rattle.sweep.specs.Parts.{AreHalves, HasFailedPart}
use Rattle.sweep.proofs.PartFacts.{halves-pass, lower-failed, upper-failed}
use Rattle.sweep.proofs.groups.+passes_within.Goals as goal

pub returns-then-not-branch-clause-failed : goal.returns-then-not-branch-clause-failed
returns-then-not-branch-clause-failed g t c =
    let test = g.T.PairTest.passes c.args.test.now in
    let are : AreHalves c.args.parts.items c.in-Some.halves = rw (c.in-Some.is, c.as_slice-2.ensures.value) at c.in_ok-halves.ensures in
    lower-failed test c.args.parts.items c.in-Some.halves are
    (OnFalse_at {P = HasFailedPart test c.in-Some.halves.lower.items} c.if-not-branch.true c.in_ok-passes_within.ensures.failed)

pub returns-clause-passed : goal.returns-clause-passed
returns-clause-passed g t c =
    let test = g.T.PairTest.passes c.args.test.now in
    let are : AreHalves c.args.parts.items c.in-Some.halves = rw (c.in-Some.is, c.as_slice-2.ensures.value) at c.in_ok-halves.ensures in
    let lower = OnTrue_at c.if-not-branch.false c.in_ok-passes_within.ensures.passed in
    IfOk-weaker c.passes_within-2.result _ _ (λ b h. OnTrue_from b _ (λ is. halves-pass test c.args.parts.items c.in-Some.halves are lower (OnTrue_at is h))) c.passes_within-2.ensures.passed

pub returns-clause-failed : goal.returns-clause-failed
returns-clause-failed g t c =
    let test = g.T.PairTest.passes c.args.test.now in
    let are : AreHalves c.args.parts.items c.in-Some.halves = rw (c.in-Some.is, c.as_slice-2.ensures.value) at c.in_ok-halves.ensures in
    IfOk-weaker c.passes_within-2.result _ _ (λ b h. OnFalse_from b _ (λ is. upper-failed test c.args.parts.items c.in-Some.halves are (OnFalse_at is h))) c.passes_within-2.ensures.failed
