-- How a history goes on by commands.
use Rattle.std.specs.Prelude.{◌≡◌, List, [], ◌∷◌, Some, Result, Ok, Err}
use Rattle.cad_rows.specs.declared.edits.Edit.{Edit}
use Rattle.cad_rows.specs.declared.refusals.Refusal.{Refusal}
use Rattle.cad_rows.specs.declared.refusals.Refusal.TheVariants.{Memory}
use Rattle.cad_map.specs.Map.{Map}
use Rattle.cad_map.specs.Outcome.{LeadsTo, MayRefuse}
use Rattle.cad_history.specs.declared.commands.Command.{Command}
use Rattle.cad_history.specs.declared.commands.Command.TheVariants as command
use Rattle.cad_history.specs.declared.commands.Answer.{Answer}
use Rattle.cad_history.specs.declared.commands.Answer.TheVariants.{Done, Nothing, Refused}
use Rattle.cad_history.specs.declared.commands.UndoFault.{UndoFault}
use Rattle.cad_history.specs.declared.commands.UndoFault.TheVariants as fault
use Rattle.cad_history.specs.History.{History, shown_map, with_edit, CanUndo, CanRedo, undone, redone}

-- a history may give this answer to a command, and goes on as that one
pub data Step (h : History) : Command → Answer → History → Type 0 where
  -- the edit leads from the map that is shown to another
  edit_made : {e : Edit} {old new : Map} → shown_map h ≡ Some old → LeadsTo old e new → Step h (command.Edit e) Done (with_edit h e new)
  -- or it is refused there, and nothing changes
  edit_refused : {e : Edit} {old : Map} {r : Refusal} → shown_map h ≡ Some old → MayRefuse old e r → Step h (command.Edit e) (Refused r) h
  undo_made : CanUndo h → Step h command.Undo Done (undone h)
  nothing_to_undo : ¬ CanUndo h → Step h command.Undo Nothing h
  redo_made : CanRedo h → Step h command.Redo Done (redone h)
  nothing_to_redo : ¬ CanRedo h → Step h command.Redo Nothing h
  -- memory runs out only where there was an edit to go back or on, and nothing changes
  no_memory_to_undo : CanUndo h → Step h command.Undo (Refused Memory) h
  no_memory_to_redo : CanRedo h → Step h command.Redo (Refused Memory) h

-- a history may give these answers to these commands in turn, one to each, and goes on as that one
abbrev pub Run : History → List Command → List Answer → History → Type 0
Run old [] [] new = new ≡ old
Run old (c ∷ commands) (a ∷ answers) new = (mid : History) × Step old c a mid × Run mid commands answers new
Run old [] (a ∷ answers) new = ⊥
Run old (c ∷ commands) [] new = ⊥

-- the answer that an edit's result is
abbrev pub edit_answer : {A : Type 0} → Result A Refusal → Answer
edit_answer (Ok _) = Done
edit_answer (Err r) = Refused r

-- the answer that the result of an undo or a redo is
abbrev pub undo_answer : {A : Type 0} → Result A UndoFault → Answer
undo_answer (Ok _) = Done
undo_answer (Err fault.Nothing) = Nothing
undo_answer (Err fault.Memory) = Refused Memory
