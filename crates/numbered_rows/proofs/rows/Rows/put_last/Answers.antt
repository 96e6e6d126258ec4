use Rattle.std.proofs.Common.{◌∙◌, ◌++◌, ◌∷◌, [], ap, subst, sym}
use Rattle.std.specs.Map.{values_of}
use Rattle.entry_list.specs.Slots.{rows_of}
use Rattle.numbered_rows.specs.Rows.{AreNumbered, row_with}
use Rattle.numbered_rows.proofs.Entries.{lookup-row, values_of-push, AreNumbered-push}
use Rattle.numbered_rows.specs.Rows.{rows_in}
use Rattle.numbered_rows.proofs.rows.Rows.put_last.Goals as goal

pub put_last-requires-clause-absent : goal.put_last-requires-clause-absent
put_last-requires-clause-absent g c =
    let number = g.R.Numbered.number_of in
    let es = rows_of c.self.inside.list in
    rw (c.from-number.ensures, c.number.ensures) (lookup-row number (number c.args.row) es c.self.invariant
    ∙ ap (λ slots. row_with number (number c.args.row) (rows_in slots)) c.self.view_is ∙ c.requires.absent)

pub invariant_of-self : goal.invariant_of-self
invariant_of-self g c =
    let number = g.R.Numbered.number_of in
    let es = rows_of c.self.inside.list in
    subst (AreNumbered number) (sym (rw (c.from-number.ensures, c.number.ensures) at c.put_last.ensures.rows)) (AreNumbered-push number es c.args.row c.self.invariant)

pub returns-clause-rows : goal.returns-clause-rows
returns-clause-rows g c =
    let number = g.R.Numbered.number_of in
    let es = rows_of c.self.inside.list in
    ap values_of (rw (c.from-number.ensures, c.number.ensures) at c.put_last.ensures.rows) ∙ values_of-push number es (number c.args.row) c.args.row
    ∙ ap (λ slots. rows_in slots ++ c.args.row ∷ []) c.self.view_is
