use Rattle.sweep.proofs.PartFacts.{all-done}
use Rattle.sweep.proofs.groups.passes_each.Goals as goal

pub returns-clause-passed : goal.returns-clause-passed
returns-clause-passed g c = all-done (g.T.PairTest.passes c.args.test.now) c.args.parts.now c.loop-place.place c.loop-place-test.false c.loop-place.invariant.done
