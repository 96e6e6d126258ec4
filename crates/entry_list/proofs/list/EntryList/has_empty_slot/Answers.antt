use Rattle.std.proofs.Common.{◌≡◌, ◌∙◌, sym, None, nat_eq, length}
use Rattle.std.specs.Map.{lookup}
use Rattle.entry_list.specs.Slots.{HasSlot, rows_of}
use Rattle.entry_list.proofs.Found.{no-empty}
use Rattle.entry_list.proofs.list.EntryList.has_empty_slot.Goals as goal

pub returns-then-self-len : goal.returns-then-self-len
returns-then-self-len g c =
    let es = c.self.inside.slots in
    let full : length (rows_of es) ≡ length es = sym c.self.invariant.0.1 ∙ c.if-self-len.true ∙ c.len.ensures.len in
    let none : lookup (nat_eq c.args.number) (rows_of es) ≡ None = rw c.self.view_is c.requires in
    let no : HasSlot c.args.self.now c.args.number → ⊥ = λ slot. no-empty c.args.number es full none (rw c.self.view_is slot) in
    ((λ yes. cc), (λ slot. absurd (no slot)))
