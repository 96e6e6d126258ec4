use Rattle.std.proofs.Common.{◌≤◌, ◌∙◌, ap, subst, sym, length, insert}
use Rattle.std.specs.Map.{values_of}
use Rattle.std.proofs.lemmas.Map.Entries.{length-values_of}
use Rattle.entry_list.specs.Slots.{rows_of}
use Rattle.numbered_rows.specs.Rows.{AreNumbered, row_with}
use Rattle.numbered_rows.proofs.Entries.{lookup-row}
use Rattle.numbered_rows.specs.Rows.{rows_in}
use Rattle.numbered_rows.proofs.Placed.{values-insert, numbered-insert}
use Rattle.numbered_rows.proofs.rows.Rows.put_at.Goals as goal

pub put_at-requires-clause-absent : goal.put_at-requires-clause-absent
put_at-requires-clause-absent g c =
    let number = g.R.Numbered.number_of in
    let es = rows_of c.self.inside.list in
    rw (c.from-number.ensures, c.number.ensures) (lookup-row number (number c.args.row) es c.self.invariant
    ∙ ap (λ slots. row_with number (number c.args.row) (rows_in slots)) c.self.view_is ∙ c.requires.absent)

pub put_at-requires-clause-place : goal.put_at-requires-clause-place
put_at-requires-clause-place g c =
    subst (λ n. c.args.place ≤ n) (ap (λ slots. length (rows_in slots)) (sym c.self.view_is) ∙ length-values_of (rows_of c.self.inside.list)) c.requires.place

pub invariant_of-self : goal.invariant_of-self
invariant_of-self g c =
    let number = g.R.Numbered.number_of in
    let es = rows_of c.self.inside.list in
    subst (AreNumbered number) (sym (rw (c.from-number.ensures, c.number.ensures) at c.put_at.ensures.rows)) (numbered-insert number es c.args.place c.args.row c.self.invariant)

pub returns-clause-rows : goal.returns-clause-rows
returns-clause-rows g c =
    let number = g.R.Numbered.number_of in
    let es = rows_of c.self.inside.list in
    ap values_of (rw (c.from-number.ensures, c.number.ensures) at c.put_at.ensures.rows) ∙ values-insert es c.args.place (number c.args.row, c.args.row)
    ∙ ap (λ slots. insert (rows_in slots) c.args.place c.args.row) c.self.view_is
