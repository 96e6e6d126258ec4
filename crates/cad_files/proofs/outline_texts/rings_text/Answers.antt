use Rattle.std.proofs.Common.{◌∙◌, sym, map, [], codes}
use Rattle.cad_files.specs.Reports.{ring_record, end_record}
use Rattle.cad_files.proofs.TextFacts.{text_of-two}
use Rattle.cad_files.proofs.outline_texts.rings_text.Goals as goal

pub returns : goal.returns
returns c =
    let outer = c.in_ok-write_rings.ensures [] c.writer-writer.ensures in
    let holes = c.in_ok-write_rings-2.ensures _ outer in
    let last = c.in_ok-write_record.ensures _ holes in
    c.in_ok-text.ensures _ last
    ∙ sym (rw (← c.split_at.ensures.front, ← c.split_at.ensures.back) (text_of-two end_record (map (ring_record c.args.face.now (codes "outer")) c.split_at.result.0.now) (map (ring_record c.args.face.now (codes "hole")) c.split_at.result.1.now)))
