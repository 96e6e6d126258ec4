-- What follows of a result.
use Rattle.std.proofs.Common.{◌≡◌, sym, subst, Result, Ok, Err, IfOk}
use Rattle.std.specs.Prelude.{IfErr}
use Rattle.cad_session.specs.declared.faults.Untold.{Untold}
use Rattle.cad_session.specs.declared.faults.Untold.TheVariants as untold

-- of its value
pub if_ok_follows : {X E : Type 0} (P Q : X → Type 0) (r : Result X E) → ((x : X) → P x → Q x) → IfOk r P → IfOk r Q
if_ok_follows P Q (Ok x) follows holds = follows x holds
if_ok_follows P Q (Err e) follows holds = tt

-- of its error
pub if_err_follows : {X E : Type 0} (P Q : E → Type 0) (r : Result X E) → ((e : E) → P e → Q e) → IfErr r P → IfErr r Q
if_err_follows P Q (Ok x) follows holds = tt
if_err_follows P Q (Err e) follows holds = follows e holds

-- of a text that was told
pub told_follows : {X E : Type 0} (P Q : X → Type 0) (text : Result X E) (result : Result X Untold) → ((x : X) → P x → Q x) → IfOk result (λ x. text ≡ Ok x) → IfOk text P → IfOk result Q
told_follows P Q text (Ok x) follows is holds = follows x (rw is at holds)
told_follows P Q text (Err e) follows is holds = tt

-- of one that wasn't
pub undone_follows : {X : Type 0} (Q : Untold → Type 0) (result : Result X Untold) → IfErr result (λ fault. fault ≡ untold.Undone) → Q untold.Undone → IfErr result Q
undone_follows Q (Ok x) is holds = tt
undone_follows Q (Err e) is holds = subst Q (sym is) holds
