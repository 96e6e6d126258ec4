use Rattle.std.proofs.Common.{◌≡◌, ◌∙◌, ap, subst, sym, slice_get, insert, Some, None}
use Rattle.std.specs.Prelude.{IfSome, IfNone}
use Rattle.std.specs.Map.{values_of}
use Rattle.entry_list.specs.Slots.{rows_of}
use Rattle.numbered_rows.specs.Rows.{AreNumbered, row_with, without_row}
use Rattle.numbered_rows.specs.Rows.{rows_in}
use Rattle.numbered_rows.proofs.Entries.{numbered-without, values-without}
use Rattle.numbered_rows.proofs.Placed.{taken-row, taken-number, taken-back, taken-none}
use Rattle.numbered_rows.proofs.rows.Rows.take.Goals as goal

pub invariant_of-self : goal.invariant_of-self
invariant_of-self g c =
    let number = g.R.Numbered.number_of in
    subst (AreNumbered number) (sym (rw c.from.ensures at c.take.ensures.without)) (numbered-without number c.args.number (rows_of c.self.inside.list) c.self.invariant)

pub returns-clause-row : goal.returns-clause-row
returns-clause-row g c =
    subst (λ slots. IfSome c.take.result (λ r. slice_get (rows_in slots) r.0 ≡ Some r.1)) c.self.view_is
    (taken-row c.self.inside.list c.args.number c.take.result (rw c.from.ensures at c.take.ensures.row))

pub returns-clause-back : goal.returns-clause-back
returns-clause-back g c =
    subst (λ slots. IfSome c.take.result (λ r. rows_in slots ≡ insert (rows_in c.take.new.self) r.0 r.1)) c.self.view_is
    (taken-back c.self.inside.list c.take.new.self c.args.number c.take.result (rw c.from.ensures at c.take.ensures.back))

pub returns-clause-none : goal.returns-clause-none
returns-clause-none g c =
    subst (λ slots. IfNone c.take.result (row_with g.R.Numbered.number_of c.args.number (rows_in slots) ≡ None)) c.self.view_is
    (taken-none g.R.Numbered.number_of c.self.inside.list c.args.number c.take.result c.self.invariant (rw c.from.ensures at c.take.ensures.absent))

pub returns-clause-rows : goal.returns-clause-rows
returns-clause-rows g c =
    let number = g.R.Numbered.number_of in
    ap values_of (rw c.from.ensures at c.take.ensures.without) ∙ values-without number c.args.number (rows_of c.self.inside.list) c.self.invariant
    ∙ ap (λ slots. without_row number c.args.number (rows_in slots)) c.self.view_is

pub returns-clause-number : goal.returns-clause-number
returns-clause-number g c =
    taken-number g.R.Numbered.number_of c.self.inside.list c.args.number c.take.result c.self.invariant (rw c.from.ensures at c.take.ensures.row)
