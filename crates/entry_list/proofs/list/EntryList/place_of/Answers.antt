use Rattle.entry_list.specs.Slots.{IsRowSlot}
use Rattle.entry_list.proofs.Rows.{number-place}
use Rattle.entry_list.proofs.list.EntryList.place_of.Goals as goal

pub returns-clause-place : goal.returns-clause-place
returns-clause-place g c =
    let i = c.in_ok-slot.slot in
    let n = c.args.number in
    let r : IsRowSlot c.self.inside.slots i n =
    rw c.self.view_is c.in_ok-slot.ensures.found in
    rw (c.count_before.ensures.value, c.self.invariant.0.0, ← c.self.view_is)
    (number-place n i c.self.inside.slots r)
