use Rattle.std.proofs.Common.{sym, [], subst, refl}
use Rattle.std.proofs.lemmas.Option.{slice_get_read}
use Rattle.sweep.specs.Extents.{HasExtents}
use Rattle.sweep.proofs.Boxes.{HasExtents-push}
use Rattle.cad_valid.specs.Boxes.{box_of}
use Rattle.cad_valid.proofs.GrownLists.{grown}
use Rattle.cad_valid.proofs.boxes.boxes_of.Goals as goal

pub loop-item-preserved : goal.loop-item-preserved
loop-item-preserved c = (
  grown box_of c.args.items.now c.loop-item.item-index c.item-item.result [] c.loop-item.boxes.items _ _
      (slice_get_read c.args.items.now _ c.loop-item.item-index c.item-item.result refl c.loop-item-test.true c.item-item.is) c.loop-item.invariant.0 c.box_of.ensures.value c.in_ok-push.ensures.items,
  subst HasExtents (sym c.in_ok-push.ensures.items) (HasExtents-push c.loop-item.boxes.items _ c.loop-item.invariant.1 c.box_of.ensures.extent),
)
