use Rattle.std.proofs.Common.{sym}
use Rattle.cad_valid.specs.Placed.{placed_point}
use Rattle.cad_valid.proofs.GrownLists.{grown}
use Rattle.cad_valid.proofs.swept.put_points.Goals as goal

pub loop-place-preserved : goal.loop-place-preserved
loop-place-preserved c =
    let at = rw c.unwrap-point.ensures at c.point_at.ensures in
    grown placed_point c.args.map.now.points c.loop-place.place c.unwrap-point.result.now c.args.items.now.items c.loop-place.items.items _ _
    (sym at) c.loop-place.invariant c.placed_point.ensures c.in_ok-push.ensures.items
