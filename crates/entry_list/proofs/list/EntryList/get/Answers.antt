use Rattle.std.proofs.Common.{◌≡◌, sym, ap, ◌∙◌, Some, None, nat_eq}
use Rattle.std.specs.Map.{lookup}
use Rattle.std.specs.Option.{option_copied}
use Rattle.entry_list.proofs.Found.{no-slot, slot-row}
use Rattle.entry_list.proofs.list.EntryList.get.Goals as goal

pub returns-then-number-self : goal.returns-then-number-self
returns-then-number-self g c =
    rw (← c.self.view_is)
    (sym (no-slot c.args.number c.self.inside.slots
    (c.self.invariant.1 c.args.number c.if-number-self.true)))

pub returns-in_err-get : goal.returns-in_err-get
returns-in_err-get g c =
    let n = c.args.number in
    let slots = c.self.inside.slots in
    let none : lookup (nat_eq n) slots ≡ None =
    sym c.get.ensures ∙ ap option_copied c.in_err-get.was in
    rw (c.from_residual.ensures, ← c.self.view_is) (sym (no-slot n slots none))

pub returns : goal.returns
returns g c =
    let n = c.args.number in
    let slots = c.self.inside.slots in
    let slot : lookup (nat_eq n) slots ≡ Some c.in_ok-get.field-0.now =
    sym c.get.ensures ∙ ap option_copied c.in_ok-get.was in
    rw (← c.self.view_is)
    (c.as_ref.ensures.value ∙ sym (slot-row n slots _ slot c.len-slots.ensures.distinct))
