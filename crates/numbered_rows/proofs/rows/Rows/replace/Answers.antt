use Rattle.std.proofs.Common.{◌≡◌, ◌∙◌, ap, subst, sym, Some}
use Rattle.std.specs.Prelude.{IsSome}
use Rattle.std.specs.Map.{values_of}
use Rattle.entry_list.specs.Slots.{rows_of, row_at}
use Rattle.numbered_rows.specs.Rows.{AreNumbered, row_with, with_row}
use Rattle.numbered_rows.proofs.Entries.{lookup-row, numbered-with, values-with}
use Rattle.numbered_rows.specs.Rows.{rows_in}
use Rattle.numbered_rows.proofs.rows.Rows.replace.Goals as goal

pub replace-requires : goal.replace-requires
replace-requires g c =
    let number = g.R.Numbered.number_of in
    let es = rows_of c.self.inside.list in
    rw (c.from-number.ensures, c.number.ensures) (subst IsSome (sym (lookup-row number (number c.args.row) es c.self.invariant ∙ ap (λ slots. row_with number (number c.args.row) (rows_in slots)) c.self.view_is)) c.requires)

pub invariant_of-self : goal.invariant_of-self
invariant_of-self g c =
    let number = g.R.Numbered.number_of in
    subst (AreNumbered number) (sym (rw (c.from-number.ensures, c.number.ensures) at c.replace.ensures.with)) (numbered-with number c.args.row (rows_of c.self.inside.list) c.self.invariant)

pub returns-clause-rows : goal.returns-clause-rows
returns-clause-rows g c =
    let number = g.R.Numbered.number_of in
    ap values_of (rw (c.from-number.ensures, c.number.ensures) at c.replace.ensures.with) ∙ values-with number c.args.row (rows_of c.self.inside.list) c.self.invariant
    ∙ ap (λ slots. with_row number c.args.row (rows_in slots)) c.self.view_is

pub returns-clause-old : goal.returns-clause-old
returns-clause-old g c =
    let number = g.R.Numbered.number_of in
    let was : row_at (number c.args.row) c.self.inside.list ≡ Some c.replace.result = rw (c.from-number.ensures, c.number.ensures) at c.replace.ensures.old in
    ap (λ slots. row_with number (number c.args.row) (rows_in slots)) (sym c.self.view_is)
    ∙ sym (lookup-row number (number c.args.row) (rows_of c.self.inside.list) c.self.invariant) ∙ was
