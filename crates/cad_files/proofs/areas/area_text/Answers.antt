use Rattle.std.proofs.Common.{◌∙◌, sym, [], map}
use Rattle.cad_files.specs.Reports.{area_record_in, end_record}
use Rattle.cad_files.proofs.TextFacts.{text_of-one}
use Rattle.cad_files.proofs.areas.area_text.Goals as goal

pub returns : goal.returns
returns g c =
    let areas = c.in_ok-write_areas.ensures [] c.writer-writer.ensures in
    let last = c.in_ok-write_record.ensures _ areas in
    let m = g.M.MapView.map c.args.view.now in
    c.in_ok-text.ensures _ last ∙ sym (text_of-one end_record (map (area_record_in m) m.parcels))
