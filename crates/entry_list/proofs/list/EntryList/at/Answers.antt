use Rattle.std.proofs.Common.{◌∙◌, ◌<◌, subst, length}
use Rattle.entry_list.specs.Slots.{rows_of}
use Rattle.entry_list.proofs.Rows.{row-at, full-marked}
use Rattle.entry_list.proofs.list.EntryList.at.Goals as goal

pub slot_at-slot-requires : goal.slot_at-slot-requires
slot_at-slot-requires g c =
    let within : c.args.place < length (rows_of c.self.inside.slots) = subst (λ n. c.args.place < n) c.self.invariant.0.1 c.if-place-self.false in
    rw (← c.self.view_is) within

pub unwrap-requires : goal.unwrap-requires
unwrap-requires g c =
    c.as_ref.ensures.variant
    ∙ full-marked c.slot_at-slot.result c.self.inside.slots _ _ (rw c.self.view_is c.slot_at-slot.ensures.marked) c.in-Some.ensures.row

pub returns-in-Some : goal.returns-in-Some
returns-in-Some g c =
    let es = c.self.inside.slots in
    let e = rw c.unwrap.ensures at c.as_ref.ensures.value in
    rw (← c.self.view_is) (row-at c.args.place c.slot_at-slot.result es _ _ _ (rw c.self.view_is c.slot_at-slot.ensures.before) c.in-Some.ensures.row e)
