-- A history has one answer beside want of memory, and goes on as one history.
use Rattle.std.proofs.Common.{◌≡◌, List, [], ◌∷◌, refl, subst, sym, ap, ◌∙◌}
use Rattle.std.proofs.lemmas.Option.{same_Some}
use Rattle.cad_rows.specs.declared.refusals.Refusal.TheVariants.{Memory}
use Rattle.cad_map.specs.Outcome.{LeadsTo, MayRefuse}
use Rattle.cad_history.specs.declared.commands.Command.{Command}
use Rattle.cad_history.specs.declared.commands.Answer.{Answer}
use Rattle.cad_history.specs.declared.commands.Answer.TheVariants.{Refused}
use Rattle.cad_history.specs.History.{History, with_edit}
use Rattle.cad_history.specs.Steps.{Step, Run}
use Rattle.cad_history.specs.Steps.Step.{edit_made, edit_refused, undo_made, nothing_to_undo, redo_made, nothing_to_redo, no_memory_to_undo, no_memory_to_redo}
use Rattle.cad_map.proofs.CallerLemmas.{leads-one, leads-not_refused, refused-one, refused-but_memory}

step-one : (h x y : History) (c : Command) (a : Answer) → Step h c a x → Step h c a y → x ≡ y
step-one h x y c a (edit_made {e} {old = m} {new = n} at leads) (edit_made {e = f} {old = m'} {new = n'} at' leads') =
    let same = same_Some _ _ (sym at ∙ at') in
    ap (with_edit h e) (leads-one m' e n n' (subst (λ z. LeadsTo z e n) same leads) leads')
step-one h x y c a (edit_refused at may) (edit_refused at' may') = refl
step-one h x y c a (undo_made can) (undo_made can') = refl
step-one h x y c a (nothing_to_undo cannot) (nothing_to_undo cannot') = refl
step-one h x y c a (redo_made can) (redo_made can') = refl
step-one h x y c a (nothing_to_redo cannot) (nothing_to_redo cannot') = refl
step-one h x y c a (no_memory_to_undo can) (no_memory_to_undo can') = refl
step-one h x y c a (no_memory_to_redo can) (no_memory_to_redo can') = refl

pub one_end : (cs : List Command) (answers : List Answer) (h x y : History) → Run h cs answers x → Run h cs answers y → x ≡ y
one_end [] [] h x y p q = p ∙ sym q
one_end [] (a ∷ answers) h x y p q = absurd p
one_end (c ∷ cs) [] h x y p q = absurd p
one_end (c ∷ cs) (a ∷ answers) h x y p q =
    let same = step-one h p.0 q.0 c a p.1 q.1 in
    one_end cs answers q.0 x y (subst (λ s. Run s cs answers x) same p.2) q.2

pub one_answer : (h x y : History) (c : Command) (a b : Answer) → Step h c a x → Step h c b y → ¬ (a ≡ Refused Memory) → ¬ (b ≡ Refused Memory) → a ≡ b
one_answer h x y c a b (edit_made at leads) (edit_made at' leads') known knows = refl
one_answer h x y c a b (edit_made {e} {old = m} {new = n} at leads) (edit_refused {e = f} {old = m'} {r} at' may) known knows =
    let same = same_Some _ _ (sym at ∙ at') in
    absurd (leads-not_refused m' e n r (subst (λ z. LeadsTo z e n) same leads) (refused-but_memory m' e r may (λ is. knows (ap Refused is))))
one_answer h x y c a b (edit_refused {e = f} {old = m} {r} at may) (edit_made {e} {old = m'} {new = n} at' leads) known knows =
    let same = same_Some _ _ (sym at' ∙ at) in
    absurd (leads-not_refused m e n r (subst (λ z. LeadsTo z e n) same leads) (refused-but_memory m e r may (λ is. known (ap Refused is))))
one_answer h x y c a b (edit_refused {e} {old = m} {r} at may) (edit_refused {e = f} {old = m'} {r = s} at' may') known knows =
    let same = same_Some _ _ (sym at ∙ at') in
    let first = refused-but_memory m' e r (subst (λ z. MayRefuse z e r) same may) (λ is. known (ap Refused is)) in
    let second = refused-but_memory m' e s may' (λ is. knows (ap Refused is)) in
    ap Refused (refused-one m' e r s first second)
one_answer h x y c a b (undo_made can) (undo_made can') known knows = refl
one_answer h x y c a b (undo_made can) (nothing_to_undo cannot) known knows = absurd (cannot can)
one_answer h x y c a b (undo_made can) (no_memory_to_undo can') known knows = absurd (knows refl)
one_answer h x y c a b (nothing_to_undo cannot) (undo_made can) known knows = absurd (cannot can)
one_answer h x y c a b (nothing_to_undo cannot) (nothing_to_undo cannot') known knows = refl
one_answer h x y c a b (nothing_to_undo cannot) (no_memory_to_undo can) known knows = absurd (knows refl)
one_answer h x y c a b (no_memory_to_undo can) q known knows = absurd (known refl)
one_answer h x y c a b (redo_made can) (redo_made can') known knows = refl
one_answer h x y c a b (redo_made can) (nothing_to_redo cannot) known knows = absurd (cannot can)
one_answer h x y c a b (redo_made can) (no_memory_to_redo can') known knows = absurd (knows refl)
one_answer h x y c a b (nothing_to_redo cannot) (redo_made can) known knows = absurd (cannot can)
one_answer h x y c a b (nothing_to_redo cannot) (nothing_to_redo cannot') known knows = refl
one_answer h x y c a b (nothing_to_redo cannot) (no_memory_to_redo can) known knows = absurd (knows refl)
one_answer h x y c a b (no_memory_to_redo can) q known knows = absurd (known refl)
