use Rattle.std.proofs.Common.{sym}
use Rattle.cad_map.proofs.Lists.Entries.{take-more}
use Rattle.cad_map.proofs.retired.Retired.copy.Goals as goal

pub loop-place-preserved : goal.loop-place-preserved
loop-place-preserved c =
    let at = rw c.unwrap.ensures at c.get.ensures in
    rw (c.in_ok-push.ensures.ok, c.loop-place.invariant) (take-more c.args.self.now c.loop-place.place _ (sym at))
