use Rattle.std.proofs.Common.{Some, sym, arith}
use Rattle.entry_list.specs.Slots.{IsEmptySlot}
use Rattle.entry_list.proofs.Above.{above-set}
use Rattle.entry_list.proofs.Rows.{marks-set, filled-length, put-row, rows-le}
use Rattle.entry_list.proofs.Found.{slots-set}
use Rattle.entry_list.proofs.list.EntryList.fill.Goals as goal

pub overflow_add-self : goal.overflow_add-self
overflow_add-self g c = omega (arith, c.self.invariant.0.1, rows-le c.self.inside.slots)

pub invariant_of-self : goal.invariant_of-self
invariant_of-self g c =
    let i = c.args.slot in
    let n = c.args.number in
    let h : IsEmptySlot c.self.inside.slots i n = rw c.self.view_is c.requires in (
      (
        rw (c.set.ensures, c.self.invariant.0.0, c.replace.ensures.after)
            (sym (marks-set i c.self.inside.slots (Some c.args.row))),
        rw (c.replace.ensures.after, c.self.invariant.0.1)
            (sym (filled-length n i c.self.inside.slots c.args.row h)),
      ),
      above-set c.self.inside.greatest i c.self.inside.slots c.replace.new.dest c.self.invariant.1,
    )

pub returns-clause-rows : goal.returns-clause-rows
returns-clause-rows g c =
    let i = c.args.slot in
    let n = c.args.number in
    let h : IsEmptySlot c.self.inside.slots i n = rw c.self.view_is c.requires in
    rw (c.replace.ensures.after, ← c.self.view_is)
    (put-row i c.self.inside.slots n c.args.row h)

pub returns-clause-slots : goal.returns-clause-slots
returns-clause-slots g c k h =
    slots-set c.args.slot c.self.inside.slots c.replace.new.dest k (rw c.self.view_is h)
