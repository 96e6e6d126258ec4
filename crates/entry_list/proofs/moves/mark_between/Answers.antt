use Rattle.std.proofs.Common.{◌<◌, ◌∙◌, length, arith, sym}
use Rattle.std.proofs.lemmas.List.{length-set}
use Rattle.entry_list.specs.Slots.{marks_of}
use Rattle.entry_list.proofs.Lists.{agree-more, agree-past, agree-all}
use Rattle.entry_list.proofs.Rows.{length-marks}
use Rattle.entry_list.proofs.moves.mark_between.Goals as goal

pub loop-slot-init : goal.loop-slot-init
loop-slot-init g c = record {
  size = c.requires.size;
  before = c.requires.before;
  behind = c.requires.behind;
}

pub loop-slot-preserved : goal.loop-slot-preserved
loop-slot-preserved g c =
    let xs = c.loop-slot.live in
    let ys = marks_of c.args.slots.now in
    let i = c.loop-slot.slot in
    let y = c.mark_at-mark.result in
    let w = c.loop-slot.invariant in
    let l : i < length xs = omega (arith, w.size, c.loop-slot-test.true, c.requires.within) in
    rw c.set.ensures record {
      size = length-set xs i y ∙ w.size;
      before = λ k u. agree-more i k y xs ys l c.mark_at-mark.ensures.mark (w.before k) u;
      behind = λ k u. agree-past i k y xs ys l c.mark_at-mark.ensures.mark (w.behind k u);
    }

pub returns : goal.returns
returns g c =
    let xs = c.loop-slot.live in
    let es = c.args.slots.now in
    let w = c.loop-slot.invariant in
    agree-all c.loop-slot.slot c.args.last xs (marks_of es) (w.size ∙ sym (length-marks es))
    (omega (arith, c.loop-slot-test.false)) w.before w.behind
