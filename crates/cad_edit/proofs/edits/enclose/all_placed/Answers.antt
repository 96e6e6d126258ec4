use Rattle.std.proofs.Common.{sym, ◌∙◌, [], ◌∷◌, ◌++◌}
use Rattle.cad_map.specs.Division.{hole_placed}
use Rattle.cad_edit.proofs.PlacedSoFar.{placed-more}
use Rattle.cad_edit.proofs.edits.enclose.all_placed.Goals as goal

pub loop-boundary-preserved : goal.loop-boundary-preserved
loop-boundary-preserved c =
    c.in_ok-push.ensures.items ∙ (λ j. c.loop-boundary.invariant j ++ c.in_ok-hole_placed.ensures j ∷ [])
    ∙ sym (placed-more _ _ c.boundaries-boundary-items.ensures c.loop-boundary.boundary-index c.boundary-item.result c.loop-boundary-test.true c.boundary-item.is
    (hole_placed c.args.map.now c.args.face.now c.args.new.now c.args.ring.now))
