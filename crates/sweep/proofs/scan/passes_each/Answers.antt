use Rattle.sweep.proofs.Rising.{rising-next}
use Rattle.sweep.proofs.scan.passes_each.Goals as goal

pub passes_later-requires : goal.passes_later-requires
passes_later-requires g c = rising-next c.args.spans.now c.loop-place.place (record { low = 0; high = 0; place = 0 }) c.loop-place-test.true c.loop-place.invariant.0
