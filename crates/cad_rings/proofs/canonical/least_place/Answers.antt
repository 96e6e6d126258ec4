use Rattle.std.proofs.Common.{sym, ◌∙◌}
use Rattle.cad_rings.proofs.CanonicalSteps.{next_least}
use Rattle.cad_rings.proofs.canonical.least_place.Goals as goal

pub loop-place-preserved : goal.loop-place-preserved
loop-place-preserved c = (
  c.better_place-best.ensures.within,
  sym (next_least c.args.points.now c.loop-place.place c.loop-place.best c.better_place-best.result c.loop-place-test.true c.better_place-best.ensures.better) ∙ c.loop-place.invariant.1,
)
