use Rattle.std.proofs.Common.{◌∙◌, sym, refl, subst, ℕ, arith}
use Rattle.std.proofs.lemmas.Bool.{false≢true}
use Rattle.csv.specs.Reading.{strip_bom}
use Rattle.cad_history.specs.History.{beginning}
use Rattle.cad_handle.specs.Sessions.{IsOpenedOn}
use Rattle.cadedit_c.proofs.Outcomes.{no_other, among_all}
use Rattle.cadedit_c.proofs.cadedit_open.Goals as goal

pub returns-in-Some-clause-usable : goal.returns-in-Some-clause-usable
returns-in-Some-clause-usable c = rw c.put.ensures (rw c.in-Some.ensures.taken at c.requires)

pub returns-in-Some-clause-was_open : goal.returns-in-Some-clause-was_open
returns-in-Some-clause-was_open c = λ _. rw c.in-Some.ensures.taken refl

pub returns-in-Some-clause-kept : goal.returns-in-Some-clause-kept
returns-in-Some-clause-kept c = λ _. c.put.ensures ∙ sym c.in-Some.ensures.taken

pub returns-in_default-new-clause-no_depth : goal.returns-in_default-new-clause-no_depth
returns-in_default-new-clause-no_depth c = λ _. (c.in_default.ensures.taken, λ is. false≢true (c.in_default-new.ensures.some.1 is))

pub returns-in-Ok-clause-usable : goal.returns-in-Ok-clause-usable
returns-in-Ok-clause-usable c =
    let (plan, rows, m, taken, opens, few, built, shows, none) = c.in-Ok.ensures.opened in
    rw c.put-in-Ok.ensures (beginning m c.in-Some-new.depth, shows)

pub returns-in-Ok-clause-done : goal.returns-in-Ok-clause-done
returns-in-Ok-clause-done c = λ _. (
  rw (c.in_default.ensures.taken, c.put-in-Ok.ensures) (subst (λ (d : ℕ). IsOpenedOn (strip_bom c.args.plan.now) d c.in-Ok.state.value) c.in-Some-new.ensures.value c.in-Ok.ensures.opened),
  c.in-Some-new.ensures.some.0 refl,
)

pub returns-in-Err-clause-usable : goal.returns-in-Err-clause-usable
returns-in-Err-clause-usable c = rw c.in_default.ensures.closed tt

pub returns-in-Err-clause-done : goal.returns-in-Err-clause-done
returns-in-Err-clause-done c = λ is. absurd (no_other _ 0 (λ e. omega (arith, e)) (λ e. omega (arith, e)) c.tell_fault.ensures.status is)

pub returns-in-Err-clause-was_open : goal.returns-in-Err-clause-was_open
returns-in-Err-clause-was_open c = λ is. absurd (no_other _ 1 (λ e. omega (arith, e)) (λ e. omega (arith, e)) c.tell_fault.ensures.status is)

pub returns-in-Err-clause-faulty : goal.returns-in-Err-clause-faulty
returns-in-Err-clause-faulty c = λ is.
    let (other, room, whole) = c.tell_fault.ensures.told is in
    (c.in-Err.fault, c.in_default.ensures.taken, other, (λ read. c.in-Err.ensures.faulty read other), room, whole)

pub returns-in-Err-clause-no_depth : goal.returns-in-Err-clause-no_depth
returns-in-Err-clause-no_depth c = λ is. absurd (no_other _ 4 (λ e. omega (arith, e)) (λ e. omega (arith, e)) c.tell_fault.ensures.status is)

pub returns-in-Err-clause-memory : goal.returns-in-Err-clause-memory
returns-in-Err-clause-memory c = λ _. (c.in_default.ensures.taken, c.in-Some-new.ensures.some.0 refl)

pub returns-in-Err-clause-status : goal.returns-in-Err-clause-status
returns-in-Err-clause-status c = among_all _ c.tell_fault.ensures.status

pub returns-in-Err-clause-kept : goal.returns-in-Err-clause-kept
returns-in-Err-clause-kept c = λ _. c.in_default.ensures.closed ∙ sym c.in_default.ensures.taken

pub returns-in-Err-clause-quiet : goal.returns-in-Err-clause-quiet
returns-in-Err-clause-quiet c = c.tell_fault.ensures.quiet
