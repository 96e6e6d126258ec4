use Rattle.std.proofs.Common.{◌∙◌, sym, ap, List, [], ◌++◌, map}
use Rattle.cad_files.specs.Texts.{text_of, record_text}
use Rattle.cad_files.specs.Rows.{Rows}
use Rattle.cad_files.specs.declared.rows.PlanString.{PlanString}
use Rattle.cad_views.specs.Tables.{string_header, string_row}
use Rattle.cad_views.proofs.ToldFacts.{strings-told}
use Rattle.cad_views.proofs.tables.string_table.Goals as goal

pub returns : goal.returns
returns c =
    let m = c.args.map.now in
    let first = c.in_ok-write_record.ensures [] c.writer-out.ensures in
    let last = c.in_ok-write_strings.ensures _ first in
    c.in_ok-text.ensures _ last
    ∙ ap (λ (ss : List PlanString). record_text string_header ++ text_of (map (string_row m) ss)) (c.as_slice.ensures.value ∙ ap (λ (r : Rows). r.strings) c.rows.view_is ∙ sym (strings-told c.args.rows.now m c.requires))
