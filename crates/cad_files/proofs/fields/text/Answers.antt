use Rattle.std.proofs.Common.{sym, rules}
use Rattle.std.proofs.lemmas.Str.{is_utf8-from_IsUtf8}
use Rattle.cad_files.specs.Fields.{text_of}
use Rattle.cad_files.proofs.FieldFacts.{no_text}
use Rattle.cad_files.proofs.fields.text.Goals as goal

pub returns-in-Ok : goal.returns-in-Ok
unfolding text_of
returns-in-Ok c = rw (is_utf8-from_IsUtf8 c.args.bytes.now c.in-Ok.ensures.cases.1) (rw c.in-Ok.ensures.cases.0 at c.new.ensures)

pub returns-in-Err : goal.returns-in-Err
unfolding text_of
returns-in-Err c = rw (sym (no_text c.args.bytes.now c.in-Err.ensures.cases.0)) (search rules)
