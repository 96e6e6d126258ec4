use Rattle.std.proofs.Common.{◌≡◌, ◌∙◌, refl, ap, subst, ℕ, List, length}
use Rattle.csv.specs.Reading.{strip_bom}
use Rattle.cad_history.specs.History.{History}
use Rattle.cad_handle.specs.Sessions.{Shows}
use Rattle.cad_handle.specs.declared.state.State.{State}
use Rattle.cadedit_c.specs.Told.{told}
use Rattle.cadedit_c.proofs.Outcomes.{carried_out}
use Rattle.cadedit_c.proofs.cadedit_submit.Goals as goal

pub submit-requires : goal.submit-requires
submit-requires c = rw c.deref_mut.ensures.value (rw c.in-Some.ensures.taken at c.requires)

pub returns-in-Ok-clause-usable : goal.returns-in-Ok-clause-usable
returns-in-Ok-clause-usable c = rw c.put.ensures c.in-Ok.ensures.usable

pub returns-in-Ok-clause-done : goal.returns-in-Ok-clause-done
returns-in-Ok-clause-done c = λ _.
    let answer : c.as_slice.result.now ≡ c.submit.new.self.answer.items = c.as_slice.ensures.value ∙ ap (λ (s : State). s.answer.items) c.deref.ensures in (
      c.submit.new.self.answer.items,
      rw (c.in-Some.ensures.taken, c.put.ensures) (rw c.deref_mut.ensures.value at c.in-Ok.ensures.told, refl),
      c.tell.ensures.room ∙ ap (λ (text : List ℕ). told text c.args.room.now) answer,
      c.tell.ensures.whole ∙ ap (λ (text : List ℕ). length text) answer,
    )

pub returns-in-Err-NotOne-clause-not_one : goal.returns-in-Err-NotOne-clause-not_one
returns-in-Err-NotOne-clause-not_one c = λ _.
    let goes = rw (c.in-Err-NotOne.field-0-is, c.deref_mut.ensures.value) at c.in-Err-NotOne.ensures.untold in
    rw (c.in-Some.ensures.taken, c.put-in-Err-NotOne.ensures)
    (λ h shows. let (end, same, after) = goes h shows in subst (λ (e : History). Shows c.submit.new.self.editor e) same after, c.in-Err-NotOne.ensures.none)

pub returns-in-Err-Undone-clause-memory : goal.returns-in-Err-Undone-clause-memory
returns-in-Err-Undone-clause-memory c = λ _.
    let goes = rw (c.in-Err-Undone.field-0-is, c.deref_mut.ensures.value) at c.in-Err-Undone.ensures.untold in
    rw (c.in-Some.ensures.taken, c.put-in-Err-Undone.ensures)
    (λ h shows. let (end, same, after) = goes h shows in subst (λ (e : History). Shows c.submit.new.self.editor e) same after, c.in-Err-Undone.ensures.none)

pub returns-in-Err-Done-clause-untold : goal.returns-in-Err-Done-clause-untold
returns-in-Err-Done-clause-untold c = λ _.
    let goes = rw c.deref_mut.ensures.value at c.in-Err-Done.ensures.untold in
    rw (c.in-Some.ensures.taken, c.put-in-Err-Done.ensures) (carried_out c.in-Some.state.value c.submit.new.self (strip_bom c.args.text.now) _ c.in-Err-Done.field-0-is goes, c.in-Err-Done.ensures.none)
