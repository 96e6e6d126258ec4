use Rattle.std.proofs.Common.{sym}
use Rattle.cad_valid.specs.Placed.{placed_string}
use Rattle.cad_valid.proofs.GrownLists.{grown}
use Rattle.cad_valid.proofs.swept.put_strings.Goals as goal

pub loop-place-preserved : goal.loop-place-preserved
loop-place-preserved c =
    let at = rw c.unwrap-string.ensures at c.string_at.ensures in
    grown (placed_string c.args.map.now) c.args.map.now.strings c.loop-place.place c.unwrap-string.result.now c.args.items.now.items c.loop-place.items.items _ _
    (sym at) c.loop-place.invariant c.placed_string.ensures c.in_ok-push.ensures.items
