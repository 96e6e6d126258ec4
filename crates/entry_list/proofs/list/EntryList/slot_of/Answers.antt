use Rattle.std.proofs.Common.{sym, ◌∙◌}
use Rattle.entry_list.proofs.Found.{no-slot, placed-slot, absent-placed}
use Rattle.entry_list.proofs.list.EntryList.slot_of.Goals as goal

pub returns-in_err-slot-clause-absent : goal.returns-in_err-slot-clause-absent
returns-in_err-slot-clause-absent g c =
    rw (c.from_residual.ensures, ← c.self.view_is)
    (no-slot c.args.number c.self.inside.slots c.in_err-slot.ensures.none)

pub returns-then-is_some-clause-found : goal.returns-then-is_some-clause-found
returns-then-is_some-clause-found g c =
    rw (← c.self.view_is)
    (placed-slot c.args.number c.in_ok-slot.slot c.self.inside.slots
    _ c.in-Some.row.now c.in_ok-slot.ensures.there
    c.in-Some.ensures.row (sym c.is_some.ensures ∙ c.if-is_some.true))

pub returns-else-is_some-clause-absent : goal.returns-else-is_some-clause-absent
returns-else-is_some-clause-absent g c =
    rw (← c.self.view_is)
    (absent-placed c.args.number c.in_ok-slot.slot c.self.inside.slots
    _ c.in-Some.row.now c.in_ok-slot.ensures.there
    c.in-Some.ensures.row c.in-Some.ensures.value c.in_ok-slot.ensures.distinct
    (sym c.is_some.ensures ∙ c.if-is_some.false))

pub returns-then-number-self-clause-absent : goal.returns-then-number-self-clause-absent
returns-then-number-self-clause-absent g c =
    let n = c.args.number in
    rw (← c.self.view_is)
    (no-slot n c.self.inside.slots (c.self.invariant.1 n c.if-number-self.true))
