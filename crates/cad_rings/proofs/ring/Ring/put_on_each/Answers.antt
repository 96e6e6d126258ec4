use Rattle.std.proofs.Common.{ap, length, append-nil, arith}
use Rattle.cad_rings.proofs.CallerLemmas.{length-put_on}
use Rattle.cad_rings.proofs.ring.Ring.put_on_each.Goals as goal

pub invariant_of-result : goal.invariant_of-result
invariant_of-result c =
    let whole = rw (c.in-None.ensures.steps.0, append-nil) at c.loop-from.invariant in
    omega (arith, ap length whole, length-put_on c.args.side c.args.point c.args.self.now, ap length c.self.view_is, c.self.invariant)
