use Rattle.std.proofs.Common.{◌≡◌, ◌+◌, arith, ap, length, ◌∙◌}
use Rattle.entry_list.specs.Totals.{total_before}
use Rattle.entry_list.proofs.Totals.{total-more, total-zero}
use Rattle.entry_list.specs.Slots.{rows_of, marks_of}
use Rattle.entry_list.proofs.Rows.{count-all, length-marks}
use Rattle.entry_list.proofs.list.EntryList.slot_after.Goals as goal

pub place_of-requires : goal.place_of-requires
place_of-requires g c =
    omega (
      arith,
      ap (λ s. length (rows_of s)) c.self.view_is,
      count-all c.self.inside.slots c.self.inside.live c.self.invariant.0.0,
    )

pub returns-clause-before : goal.returns-clause-before
returns-clause-before g c =
    let i = c.place_of.result in
    let live = c.self.inside.live in
    let t : total_before (i + 1) live ≡ c.args.place =
    omega (arith, total-more i live, c.place_of.ensures.before, c.place_of.ensures.marked) in
    rw (← c.self.view_is, ← c.self.invariant.0.0) t

pub returns-then-place-eq0-clause-before : goal.returns-then-place-eq0-clause-before
returns-then-place-eq0-clause-before g c =
    omega (arith, c.if-place-eq0.true, total-zero (marks_of c.args.self.now))

pub overflow_add-result : goal.overflow_add-result
overflow_add-result g c =
    let e = ap length c.self.invariant.0.0 ∙ length-marks c.self.inside.slots in
    omega (arith, e, c.place_of.ensures.within, c.len-slots.ensures.len, c.len-slots.ensures.small)
