use Rattle.std.proofs.Common.{◌∙◌, ap, List, [], ◌++◌, map}
use Rattle.cad_rows.specs.declared.names.Name.{Name}
use Rattle.cad_files.specs.Texts.{text_of, record_text}
use Rattle.cad_views.specs.Differences.{difference_header, difference_record}
use Rattle.cad_views.proofs.differences.difference_text.Goals as goal

pub returns : goal.returns
returns c =
    let first = c.in_ok-write_record.ensures [] c.writer-out.ensures in
    let last = c.in_ok-write_differences.ensures _ first in
    c.in_ok-text.ensures _ last
    ∙ ap (λ (ns : List Name). record_text difference_header ++ text_of (map (difference_record c.args.old.now c.args.new.now) ns)) (c.as_slice.ensures.value ∙ c.in_ok-names.ensures)
