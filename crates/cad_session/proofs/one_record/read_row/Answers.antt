use Rattle.std.proofs.Common.{[]}
use Rattle.csv.specs.Reading.{strip_bom}
use Rattle.cad_session.proofs.one_record.read_row.Goals as goal

pub returns-in-Ok-false-next_row-clause-row : goal.returns-in-Ok-false-next_row-clause-row
returns-in-Ok-false-next_row-clause-row c =
    let text = strip_bom c.args.text.now in
    let first = c.in-Ok-true.ensures.more c.in-Ok-true.field-0-test text [] c.records_of-reader.ensures in
    c.in-Ok-false-next_row.ensures.ends c.in-Ok-false-next_row.field-0-test text _ first
