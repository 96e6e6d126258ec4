use Rattle.std.proofs.Common.{◌==◌, ◌∙◌, ap, sym, subst, not}
use Rattle.std.specs.Prelude.{IsSome}
use Rattle.numbered_rows.specs.Rows.{row_with, without_row}
use Rattle.numbered_rows.proofs.Removed.{kept-without, none-filter}
use Rattle.numbered_rows.specs.Rows.{rows_in}
use Rattle.numbered_rows.proofs.rows.Rows.take_both.Goals as goal

pub take_there-second_taken-requires : goal.take_there-second_taken-requires
take_there-second_taken-requires g c =
    let number = g.R.Numbered.number_of in
    subst IsSome
    (sym (ap (row_with number c.args.second) c.take_there-first_taken.ensures.rows
    ∙ kept-without number c.args.second c.args.first (rows_in c.args.self.now) c.requires.differ)) c.requires.second

pub returns-clause-second_found : goal.returns-clause-second_found
returns-clause-second_found g c =
    let number = g.R.Numbered.number_of in
    sym (kept-without number c.args.second c.args.first (rows_in c.args.self.now) c.requires.differ)
    ∙ ap (row_with number c.args.second) (sym c.take_there-first_taken.ensures.rows)
    ∙ c.take_there-second_taken.ensures.found

pub returns-clause-absent : goal.returns-clause-absent
returns-clause-absent g c = λ n none.
    let number = g.R.Numbered.number_of in
    let old = rows_in c.args.self.now in
    ap (row_with number n) (c.take_there-second_taken.ensures.rows ∙ ap (without_row number c.args.second) c.take_there-first_taken.ensures.rows)
    ∙ none-filter number (λ r. not (number r == c.args.second)) n (without_row number c.args.first old)
    (none-filter number (λ r. not (number r == c.args.first)) n old none)
