use Rattle.csv.specs.Records.{fields_of}
use Rattle.cad_session.proofs.one_record.submit.Goals as goal

pub returns-in-Ok-answer_of_row-clause-told : goal.returns-in-Ok-answer_of_row-clause-told
returns-in-Ok-answer_of_row-clause-told g c = λ h stands.
    let (end, answered, after) = c.in-Ok-answer_of_row.ensures.told h stands in
    (fields_of c.in-Ok.row, end, c.in-Ok.ensures.row, answered, after)

pub returns-clause-untold : goal.returns-clause-untold
returns-clause-untold g c = λ h stands.
    let (end, done, after) = rw c.in-Err-Done.field-0-is at c.in-Err-Done.ensures.untold h stands in
    (end, (fields_of c.in-Ok.row, c.in-Ok.ensures.row, done), after)
