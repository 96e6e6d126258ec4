use Rattle.std.proofs.Common.{◌∙◌, ap, sym, slice_get}
use Rattle.numbered_rows.specs.Rows.{row_with, with_row}
use Rattle.numbered_rows.specs.Rows.{rows_in}
use Rattle.numbered_rows.proofs.Removed.{none-taken, placed-within, insert-found, insert-with}
use Rattle.numbered_rows.proofs.rows.Rows.take_there.Goals as goal

pub returns-clause-found : goal.returns-clause-found
returns-clause-found g c =
    let number = g.R.Numbered.number_of in
    let own = rw c.unwrap.ensures at c.take.ensures.number in
    let back = rw c.unwrap.ensures at c.take.ensures.back in
    let none = ap (row_with number c.args.number) c.take.ensures.rows ∙ none-taken number c.args.number (rows_in c.args.self.now) in
    ap (row_with number c.args.number) back
    ∙ insert-found number c.args.number (rows_in c.take.new.self) c.unwrap.result.0 c.unwrap.result.1 own none

pub returns-clause-absent : goal.returns-clause-absent
returns-clause-absent g c =
    let number = g.R.Numbered.number_of in
    let own = rw c.unwrap.ensures at c.take.ensures.number in
    rw own (ap (row_with number c.args.number) c.take.ensures.rows ∙ none-taken number c.args.number (rows_in c.args.self.now))

pub returns-clause-place : goal.returns-clause-place
returns-clause-place g c =
    let back = rw c.unwrap.ensures at c.take.ensures.back in
    let at = rw c.unwrap.ensures at c.take.ensures.row in
    placed-within (rows_in c.take.new.self) c.unwrap.result.0 c.unwrap.result.1
    (ap (λ l. slice_get l c.unwrap.result.0) (sym back) ∙ at)

pub returns-clause-back : goal.returns-clause-back
returns-clause-back g c row same =
    let number = g.R.Numbered.number_of in
    let own = rw c.unwrap.ensures at c.take.ensures.number in
    let back = rw c.unwrap.ensures at c.take.ensures.back in
    let none = ap (row_with number c.args.number) c.take.ensures.rows ∙ none-taken number c.args.number (rows_in c.args.self.now) in
    insert-with number (rows_in c.take.new.self) c.unwrap.result.0 c.unwrap.result.1 row same (rw own none)
    ∙ ap (with_row number row) (sym back)
