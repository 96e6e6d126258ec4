use Rattle.std.proofs.Common.{◌≡◌, ◌∙◌, ◌++◌, ap}
use Rattle.csv.specs.Records.{fields_of}
use Rattle.map_job.proofs.BatchFacts.{kept_behind, answered_behind}
use Rattle.map_job.proofs.serving.do_record.Goals as goal
use Rattle.map_job.proofs.serving.do_record.Goals.{then-taken+in_ok-line_of_row+in_ok-push, else-taken}

pub returns-clause-done : goal.returns-clause-done
returns-clause-done g c first h script batch stands =
    let (end, answered, leads, after) = c.in_ok-taken.ensures h stands in
    let fields = fields_of c.args.given.now in
    let old = c.args.batch.now in
    let more = c.in_ok-taken.taken.answer.items in
    let told = c.extend_from_slice.new.self.items in
    let done = c.in_ok-taken.taken.done in
    let written : told ≡ old.answers.items ++ more = c.in_ok-extend_from_slice.ensures.items ∙ ap (λ t. old.answers.items ++ t) c.as_slice.ensures.value in (
      end,
      elim c.if-taken.branch [
        | then-taken+in_ok-line_of_row+in_ok-push w ↦ rw w.batch-is
            (kept_behind first h end script old.lines.items w.push.new.self.items old.answers.items more told fields w.in_ok-line_of_row.field-0 done batch answered leads w.if-taken.true
            w.in_ok-line_of_row.ensures w.in_ok-push.ensures.items written)
        | else-taken w ↦ rw w.batch-is (answered_behind first h end script old.lines.items old.answers.items more told fields done batch answered leads w.if-taken.false written)
      ],
      after,
    )
