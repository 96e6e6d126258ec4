use Rattle.sweep.proofs.Rising.{none_met-from}
use Rattle.sweep.proofs.scan.passes_later.Goals as goal

pub returns-then-other-first-clause-passed : goal.returns-then-other-first-clause-passed
returns-then-other-first-clause-passed g c =
    c.loop-place.invariant.1 (none_met-from (g.T.PairTest.passes c.args.test.now) c.args.first c.args.spans.now c.loop-place.place _ c.loop-place-test.true c.if-other-first.true c.loop-place.invariant.0)
