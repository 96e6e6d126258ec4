use Rattle.std.proofs.Common.{rules, Bool, true, false, ap, subst, ◌≡◌, ◌∙◌}
use Rattle.csv.specs.Reading.{ExplainsRead, error_kind, stops_reader, has_failed}
use Rattle.csv.specs.declared.error.ErrorKind.TheVariants as kinds
use Rattle.cad_files.proofs.InputFacts.{has_read-more, has_read-end, has_read-other}
use Rattle.cad_files.proofs.input.next_row.Goals as goal

pub returns-in-Ok-clause-more : goal.returns-in-Ok-clause-more
returns-in-Ok-clause-more g c = λ found text rows h.
    let e = c.in-Ok.ensures in
    has_read-more g.R.Read.remaining c.args.reader.now c.read_byte_record.new.self _ text rows h (rw found at (e.reads h.trim h.ready)) (e.ready h.trim) e.flexible

pub returns-in-Ok-clause-ends : goal.returns-in-Ok-clause-ends
returns-in-Ok-clause-ends g c = λ found text rows h.
    let e = c.in-Ok.ensures in
    has_read-end g.R.Read.remaining c.args.reader.now c.read_byte_record.new.self _ text rows h (rw found at (e.reads h.trim h.ready))

pub returns-in-UnequalLengths-clause-length : goal.returns-in-UnequalLengths-clause-length
returns-in-UnequalLengths-clause-length g c = λ is_length text rows h.
    let reader = c.read_byte_record.new.self in
    let unequal = kinds.UnequalLengths c.in-UnequalLengths.pos c.in-UnequalLengths.expected_len c.in-UnequalLengths.len in
    let is_unequal : error_kind c.in-Err.e ≡ unequal = search rules in
    let (strict, is_expected, other, fields, took, is_len) = subst (ExplainsRead g.R.Read.remaining c.args.reader.now reader false) is_unequal (c.in-Err.ensures.why h.ready) in
    has_read-other g.R.Read.remaining c.args.reader.now reader fields _ text rows h took is_expected (λ e. other (e ∙ is_len))

pub returns-in-OutOfMemory-clause-failed : goal.returns-in-OutOfMemory-clause-failed
returns-in-OutOfMemory-clause-failed g c = λ other text rows h.
    let is_memory : error_kind c.in-Err.e ≡ kinds.OutOfMemory = search rules in
    c.in-Err.ensures.fails ∙ ap stops_reader is_memory
