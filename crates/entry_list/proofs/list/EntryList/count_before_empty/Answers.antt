use Rattle.std.proofs.Common.{None, arith}
use Rattle.entry_list.specs.Slots.{IsEmptySlot}
use Rattle.entry_list.proofs.Rows.{before-last}
use Rattle.entry_list.proofs.list.EntryList.count_before_empty.Goals as goal

pub returns-then-own-slots : goal.returns-then-own-slots
returns-then-own-slots g c =
    let own = c.args.own in
    let es = c.self.inside.slots in
    let h : IsEmptySlot es own c.args.number = rw c.self.view_is c.requires in
    rw (← c.self.view_is)
    (omega (arith, c.self.invariant.0.1, before-last own es c.args.number None h (omega arith)))
