use Rattle.std.proofs.Common.{◌∙◌, ◌==◌, ◌++◌, ◌∷◌, [], ap, not, List}
use Rattle.cad_rows.specs.declared.rows.StringRow.{StringRow}
use Rattle.numbered_rows.specs.Rows.{row_with, without_row}
use Rattle.cad_map.proofs.CallerLemmas.{none-filter, none-push}
use Rattle.numbered_rows.specs.Rows.{rows_in}
use Rattle.map_parts.proofs.edits.split.split_rows.Goals as goal

pub put_last-requires-2-clause-absent : goal.put_last-requires-2-clause-absent
put_last-requires-2-clause-absent c =
    let old = rows_in c.args.rows.now.strings in
    ap (row_with (λ (r : StringRow). r.number) c.args.first.number) c.take_there-taken.ensures.rows
    ∙ none-filter (λ (r : StringRow). r.number) (λ r. not (r.number == c.get.result)) c.args.first.number old c.requires.no_first

pub put_last-requires-3-clause-absent : goal.put_last-requires-3-clause-absent
put_last-requires-3-clause-absent c =
    let old = rows_in c.args.rows.now.strings in
    let left = without_row (λ (r : StringRow). r.number) c.get.result old in
    ap (row_with (λ (r : StringRow). r.number) c.args.second.number)
    (c.put_last-2.ensures.rows ∙ ap (λ (l : List StringRow). l ++ c.args.first ∷ []) c.take_there-taken.ensures.rows)
    ∙ none-push (λ (r : StringRow). r.number) c.args.second.number left c.args.first c.requires.differ
    (none-filter (λ (r : StringRow). r.number) (λ r. not (r.number == c.get.result)) c.args.second.number old c.requires.no_second)
