use Rattle.std.proofs.Common.{sym, subst, arith, ap, length, ◌∙◌, ℕ, ◌+◌}
use Rattle.std.proofs.lemmas.List.{length_push}
use Rattle.sweep.specs.Extents.{HasExtents}
use Rattle.sweep.proofs.Boxes.{HasExtents-none, HasExtents-push}
use Rattle.base_cases.proofs.sweeps.boxes.Goals as goal

pub loop-left-init : goal.loop-left-init
loop-left-init c = record {
  extents = subst HasExtents (sym c.new-boxes.ensures.items) HasExtents-none;
  count = ap length c.new-boxes.ensures.items;
}

pub loop-left-preserved : goal.loop-left-preserved
loop-left-preserved c = record {
  extents =
      subst HasExtents (sym c.in_ok-push.ensures.items) (HasExtents-push c.loop-left.boxes.items _ c.loop-left.invariant.extents
      (record { across = omega arith; up = omega arith; right = omega arith; top = omega arith }));
  count = ap length c.in_ok-push.ensures.items ∙ length_push c.loop-left.boxes.items _ ∙ ap (λ (n : ℕ). n + 1) c.loop-left.invariant.count;
}
