-- Steps of a history in turn.
use Rattle.std.proofs.Common.{◌≡◌, ◌+◌, ◌-◌, List, [], ◌∷◌, ◌++◌, refl, ap, ◌∙◌, subst, arith}
use Rattle.cad_history.specs.declared.commands.Command.{Command}
use Rattle.cad_history.specs.declared.commands.Answer.{Answer}
use Rattle.cad_history.specs.History.{History, IsHistory, opened}
use Rattle.cad_history.specs.Steps.{Step, Run}
use Rattle.cad_history.specs.Steps.Step.{edit_made, edit_refused, undo_made, nothing_to_undo, redo_made, nothing_to_redo, no_memory_to_undo, no_memory_to_redo}
use Rattle.cad_history.proofs.Cut.{cut_below}
use Rattle.cad_history.proofs.Moves.{IsHistory-with_edit, IsHistory-at}

-- a run goes on by a step
pub run_more : (h mid new : History) (cs : List Command) (answers : List Answer) (c : Command) (a : Answer) → Run h cs answers mid → Step mid c a new → Run h (cs ++ c ∷ []) (answers ++ a ∷ []) new
run_more h mid new [] [] c a run step = (new, subst (λ x. Step x c a new) run step, refl)
run_more h mid new [] (b ∷ bs) c a run step = absurd run
run_more h mid new (d ∷ cs) [] c a run step = absurd run
run_more h mid new (d ∷ cs) (b ∷ bs) c a run step = (run.0, run.1, run_more run.0 mid new cs bs c a run.2 step)

-- a step of a history is one
pub IsHistory-step : (h new : History) (c : Command) (a : Answer) → IsHistory h → Step h c a new → IsHistory new
IsHistory-step h new c a is (edit_made {e} {old = x} {new = y} at leads) = IsHistory-with_edit h e x y is at leads
IsHistory-step h new c a is (edit_refused at may) = is
IsHistory-step h new c a is (undo_made can) = IsHistory-at h (h.place - 1) is (omega arith) (omega (arith, is.at_a_map))
IsHistory-step h new c a is (nothing_to_undo cannot) = is
IsHistory-step h new c a is (redo_made can) = IsHistory-at h (h.place + 1) is (omega (arith, is.above_floor)) can
IsHistory-step h new c a is (nothing_to_redo cannot) = is
IsHistory-step h new c a is (no_memory_to_undo can) = is
IsHistory-step h new c a is (no_memory_to_redo can) = is

-- no step changes the opened map
opened-step : (h new : History) (c : Command) (a : Answer) → IsHistory h → Step h c a new → opened new ≡ opened h
opened-step h new c a is (edit_made {e} {old = x} {new = y} at leads) = cut_below (h.place + 1) h.maps y 0 (omega (arith, is.at_a_map)) (omega arith)
opened-step h new c a is (edit_refused at may) = refl
opened-step h new c a is (undo_made can) = refl
opened-step h new c a is (nothing_to_undo cannot) = refl
opened-step h new c a is (redo_made can) = refl
opened-step h new c a is (nothing_to_redo cannot) = refl
opened-step h new c a is (no_memory_to_undo can) = refl
opened-step h new c a is (no_memory_to_redo can) = refl

-- nor does a run
pub opened-run : (cs : List Command) (answers : List Answer) (h new : History) → IsHistory h → Run h cs answers new → opened new ≡ opened h
opened-run [] [] h new is run = ap opened run
opened-run [] (a ∷ answers) h new is run = absurd run
opened-run (c ∷ cs) [] h new is run = absurd run
opened-run (c ∷ cs) (a ∷ answers) h new is run =
    opened-run cs answers run.0 new (IsHistory-step h run.0 c a is run.1) run.2 ∙ opened-step h run.0 c a is run.1
