use Rattle.csv.specs.Records.{fields_of}
use Rattle.map_session.proofs.AnswerFacts.{done_if}
use Rattle.map_session.proofs.taking.take_row.Goals as goal

pub returns-in-Ok : goal.returns-in-Ok
returns-in-Ok g c h stands =
    let (end, answered, after) = c.in-Ok.ensures.told h stands in
    (end, answered, done_if c.is_done-done.result h end (fields_of c.args.row.now) c.in-Ok.answer.items answered (rw c.as_slice.ensures.value at c.is_done-done.ensures), after)
