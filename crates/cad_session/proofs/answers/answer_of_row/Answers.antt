use Rattle.std.proofs.Common.{ap, refl, Err}
use Rattle.cad_session.specs.Answered.{printed, told_areas, told_outline, no_line}
use Rattle.cad_session.proofs.Outcomes.{if_ok_follows, if_err_follows, told_follows, undone_follows}
use Rattle.cad_session.proofs.answers.answer_of_row.Goals as goal

pub returns-in-Ok-Command-clause-told : goal.returns-in-Ok-Command-clause-told
returns-in-Ok-Command-clause-told g c =
    if_ok_follows _ _ c.answer_of_command.result (λ text goes h stands. rw (c.in-Ok-Command.ensures.line, c.in-Ok-Command.field-0-is) (goes h stands)) c.answer_of_command.ensures.told

pub returns-in-Ok-Command-clause-untold : goal.returns-in-Ok-Command-clause-untold
returns-in-Ok-Command-clause-untold g c =
    if_err_follows _ _ c.answer_of_command.result (λ fault goes h stands. rw (c.in-Ok-Command.ensures.line, c.in-Ok-Command.field-0-is) (goes h stands)) c.answer_of_command.ensures.untold

pub returns-in-Ok-Areas-clause-told : goal.returns-in-Ok-Areas-clause-told
returns-in-Ok-Areas-clause-told g c =
    told_follows _ _ c.area_text.result c.told.result
    (λ text is h stands. (h, rw (c.in-Ok-Areas.ensures.line, c.in-Ok-Areas.field-0-is) (told_areas (c.map.ensures.shown_map h stands) is), stands))
    c.told.ensures.told c.area_text.ensures

pub returns-in-Ok-Areas-clause-untold : goal.returns-in-Ok-Areas-clause-untold
returns-in-Ok-Areas-clause-untold g c = undone_follows _ c.told.result c.told.ensures.untold (λ h stands. (h, refl, stands))

pub returns-in-Ok-Outline-clause-told : goal.returns-in-Ok-Outline-clause-told
returns-in-Ok-Outline-clause-told g c =
    told_follows _ _ c.outline_text.result c.told-in-Ok-Outline.result
    (λ text is h stands. (h, rw (c.in-Ok-Outline.ensures.line, c.in-Ok-Outline.field-0-is) (told_outline (c.map-in-Ok-Outline.ensures.shown_map h stands) is), stands))
    c.told-in-Ok-Outline.ensures.told c.outline_text.ensures

pub returns-in-Ok-Outline-clause-untold : goal.returns-in-Ok-Outline-clause-untold
returns-in-Ok-Outline-clause-untold g c = undone_follows _ c.told-in-Ok-Outline.result c.told-in-Ok-Outline.ensures.untold (λ h stands. (h, refl, stands))

pub returns-in-Ok-Print-clause-told : goal.returns-in-Ok-Print-clause-told
returns-in-Ok-Print-clause-told g c =
    told_follows _ _ c.plan_text.result c.told-in-Ok-Print.result
    (λ text is h stands. (h, rw (c.in-Ok-Print.ensures.line, c.in-Ok-Print.field-0-is) (printed (c.map-in-Ok-Print.ensures.shown_map h stands) is), stands))
    c.told-in-Ok-Print.ensures.told c.plan_text.ensures

pub returns-in-Ok-Print-clause-untold : goal.returns-in-Ok-Print-clause-untold
returns-in-Ok-Print-clause-untold g c = undone_follows _ c.told-in-Ok-Print.result c.told-in-Ok-Print.ensures.untold (λ h stands. (h, refl, stands))

pub returns-in-Err-Syntax-clause-told : goal.returns-in-Err-Syntax-clause-told
returns-in-Err-Syntax-clause-told g c =
    told_follows _ _ c.syntax_text.result c.told-in-Err-Syntax.result
    (λ text is h stands. (h, rw (c.in-Err-Syntax.ensures.syntax (ap Err c.in-Err-Syntax.field-0-is)) (no_line is), stands))
    c.told-in-Err-Syntax.ensures.told c.syntax_text.ensures

pub returns-in-Err-Syntax-clause-untold : goal.returns-in-Err-Syntax-clause-untold
returns-in-Err-Syntax-clause-untold g c = undone_follows _ c.told-in-Err-Syntax.result c.told-in-Err-Syntax.ensures.untold (λ h stands. (h, refl, stands))

pub returns-in-Err-Memory-clause-untold : goal.returns-in-Err-Memory-clause-untold
returns-in-Err-Memory-clause-untold g c = λ h stands. (h, refl, stands)
