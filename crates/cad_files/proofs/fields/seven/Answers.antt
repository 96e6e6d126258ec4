use Rattle.std.proofs.Common.{sym, arith, ap}
use Rattle.csv.specs.Records.{fields_of}
use Rattle.cad_files.specs.Record.{seven_of}
use Rattle.cad_files.proofs.FieldFacts.{seven_fields}
use Rattle.cad_files.proofs.fields.seven.Goals as goal

pub returns : goal.returns
returns c =
    sym (ap seven_of (seven_fields (fields_of c.args.row.now) _ _ _ _ _ _ _ (omega arith)
    c.field.ensures c.field-2.ensures c.field-3.ensures c.field-4.ensures c.field-5.ensures c.field-6.ensures c.field-7.ensures))
