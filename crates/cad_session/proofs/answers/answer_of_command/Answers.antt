use Rattle.std.proofs.Common.{true≢false, sym, ◌∙◌}
use Rattle.cad_session.specs.Answered.{by_history}
use Rattle.cad_session.proofs.StepFacts.{stays_unless}
use Rattle.cad_session.proofs.answers.answer_of_command.Goals as goal

pub returns-then-eq-clause-untold : goal.returns-then-eq-clause-untold
returns-then-eq-clause-untold g c = λ h stands. let (end, goes, after) = c.step-answer.ensures h stands in
    (end, stays_unless h _ _ _ (λ is. true≢false (sym c.if-eq.true ∙ rw is at c.eq.ensures)) (λ is. true≢false (sym c.if-eq.true ∙ rw is at c.eq.ensures)) goes, after)

pub returns-in-Ok-clause-told : goal.returns-in-Ok-clause-told
returns-in-Ok-clause-told g c =
    λ h stands. let (end, goes, after) = c.step-answer.ensures h stands in
    (end, by_history goes (λ memory. true≢false (sym (rw memory at c.eq.ensures) ∙ c.if-eq.false)) (rw c.in-Ok.is at c.answer_text.ensures), after)

pub returns-in-Err-clause-untold : goal.returns-in-Err-clause-untold
returns-in-Err-clause-untold g c =
    λ h stands. let (end, goes, after) = c.step-answer.ensures h stands in (end, (c.step-answer.result, goes, λ memory. true≢false (sym (rw memory at c.eq.ensures) ∙ c.if-eq.false)), after)
