use Rattle.std.proofs.Common.{◌∙◌, sym, []}
use Rattle.cad_files.specs.Texts.{first_record, open_record, records_of}
use Rattle.cad_files.specs.declared.kinds.Kind.TheVariants.{Sources, Points, Parcels, Strings, Retired}
use Rattle.cad_files.proofs.TextFacts.{text_of-between}
use Rattle.cad_files.proofs.plan_texts.plan_text.Goals as goal

pub returns : goal.returns
returns g c =
    let first = c.in_ok-write_record.ensures [] c.writer-writer.ensures in
    let sources = c.in_ok-write_rows.ensures _ first in
    let points = c.in_ok-write_rows-2.ensures _ sources in
    let parcels = c.in_ok-write_rows-3.ensures _ points in
    let strings = c.in_ok-write_rows-4.ensures _ parcels in
    let retired = c.in_ok-write_rows-5.ensures _ strings in
    let last = c.in_ok-write_record-2.ensures _ retired in
    let m = g.M.MapView.map c.args.view.now in
    c.in_ok-text.ensures _ last
    ∙ sym (text_of-between first_record open_record (records_of m Sources) (records_of m Points) (records_of m Parcels) (records_of m Strings) (records_of m Retired))
