use Rattle.std.proofs.Common.{◌∙◌, ◌==◌, ap, not, List, insert}
use Rattle.cad_rows.specs.declared.rows.StringRow.{StringRow}
use Rattle.numbered_rows.specs.Rows.{row_with, without_row}
use Rattle.cad_map.proofs.CallerLemmas.{none-filter}
use Rattle.numbered_rows.specs.Rows.{rows_in}
use Rattle.map_parts.proofs.Passing.JoinUndone.{none-inserted}
use Rattle.map_parts.proofs.edits.join.unjoin_rows.Goals as goal

pub put_at-requires-clause-absent : goal.put_at-requires-clause-absent
put_at-requires-clause-absent c =
    let number = λ (r : StringRow). r.number in
    ap (row_with number c.args.joined.second.number) c.take_there.ensures.rows
    ∙ none-filter number (λ (r : StringRow). not (r.number == c.get.result)) c.args.joined.second.number
    (rows_in c.args.rows.now.strings) c.requires.no_second

pub put_at-requires-2-clause-absent : goal.put_at-requires-2-clause-absent
put_at-requires-2-clause-absent c =
    let number = λ (r : StringRow). r.number in
    let old = rows_in c.args.rows.now.strings in
    ap (row_with number c.args.joined.first.number)
    (c.put_at.ensures.rows
    ∙ ap (λ (l : List StringRow). insert l c.args.joined.second_place c.args.joined.second) c.take_there.ensures.rows)
    ∙ none-inserted number c.args.joined.first.number (without_row number c.get.result old) c.args.joined.second_place
    c.args.joined.second (λ e. c.requires.differ e)
    (none-filter number (λ (r : StringRow). not (r.number == c.get.result)) c.args.joined.first.number old c.requires.no_first)
