use Rattle.std.proofs.Common.{◌≡◌, ◌+◌, ◌++◌, ◌∙◌, sym, ap, subst, List, [], ◌∷◌, take}
use Rattle.std.proofs.lemmas.List.{take_more}
use Rattle.sweep.specs.declared.extent.Extent.{Extent}
use Rattle.sweep.specs.Extents.{HasExtents}
use Rattle.sweep.proofs.Boxes.{HasExtents-push}
use Rattle.cad_valid.specs.Shapes.{Shape, AreEnclosed}
use Rattle.cad_valid.proofs.Sweeping.{AreEnclosed-push}
use Rattle.cad_valid.proofs.face_shapes.extents_of.Goals as goal

pub loop-ring-preserved : goal.loop-ring-preserved
loop-ring-preserved c =
    let old : List Extent = c.loop-ring.extents.items in
    let shapes : List Shape = c.args.rings.now in
    let so_far : List Shape = take c.loop-ring.ring-index shapes in
    let shape : Shape = c.ring-item.result in
    let e : Extent = c.extent.result in
    let put : c.push.new.self.items ≡ old ++ e ∷ [] = c.in_ok-push.ensures.items in
    let more : take (c.loop-ring.ring-index + 1) shapes ≡ so_far ++ shape ∷ [] =
    take_more shapes c.loop-ring.ring-index shape c.loop-ring-test.true ∙ ap (λ (s : Shape). so_far ++ s ∷ []) (sym c.ring-item.is) in
    record {
      boxes = subst HasExtents (sym put) (HasExtents-push old e c.loop-ring.invariant.boxes c.extent.ensures.whole);
      around = subst (λ (l : List Extent). AreEnclosed l (take (c.loop-ring.ring-index + 1) shapes)) (sym put)
          (subst (AreEnclosed (old ++ e ∷ [])) (sym more) (AreEnclosed-push old so_far e shape c.loop-ring.invariant.around c.extent.ensures.around));
    }
