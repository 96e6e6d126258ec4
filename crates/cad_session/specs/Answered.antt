-- What is told of the records of a script.
use Rattle.std.specs.Prelude.{◌≡◌, ℕ, List, [], ◌∷◌, ◌++◌, Option, Some, None}
use Rattle.cad_rows.specs.declared.refusals.Refusal.TheVariants as refusal
use Rattle.cad_rows.specs.declared.names.Face.{Face}
use Rattle.cad_map.specs.Map.{Map}
use Rattle.cad_history.specs.History.{History, shown_map}
use Rattle.cad_history.specs.Steps.{Step}
use Rattle.cad_history.specs.declared.commands.Command.{Command}
use Rattle.cad_history.specs.declared.commands.Answer.{Answer}
use Rattle.cad_history.specs.declared.commands.Answer.TheVariants as answer
use Rattle.cad_files.specs.Input.{IsWhole}
use Rattle.cad_files.specs.Line.{line_of}
use Rattle.cad_files.specs.Texts.{text_of, plan_records}
use Rattle.cad_files.specs.Reports.{area_records, outline_answer}
use Rattle.cad_files.specs.Answers.{answer_record, syntax_record}
use Rattle.cad_files.specs.declared.line.Line.{Line}
use Rattle.cad_files.specs.declared.line.Line.TheVariants as line
use Rattle.cad_session.specs.declared.faults.Untold.{Untold}
use Rattle.cad_session.specs.declared.faults.Untold.TheVariants as untold
use Rattle.cad_session.specs.declared.faults.SubmitFault.{SubmitFault}
use Rattle.cad_session.specs.declared.faults.SubmitFault.TheVariants as fault

-- ---- Answers

-- a record of a script that stands for this line is answered by these bytes, and the history goes on as that one
pub data IsAnswered (h : History) : Option Line → List ℕ → History → Type 0 where
  -- the record is none of a script
  no_line : {text : List ℕ} → text ≡ text_of (syntax_record ∷ []) → IsAnswered h None text h
  -- the history answers the command, and not by want of memory
  by_history : {c : Command} {a : Answer} {after : History} {text : List ℕ} → Step h c a after → ¬ (a ≡ answer.Refused refusal.Memory)
      → text ≡ text_of (answer_record a ∷ []) → IsAnswered h (Some (line.Command c)) text after
  -- the areas of the parcels of the map that is shown
  told_areas : {m : Map} {text : List ℕ} → shown_map h ≡ Some m → text ≡ text_of (area_records m) → IsAnswered h (Some line.Areas) text h
  -- the outline of a face of the map that is shown, or that the parcel is unknown
  told_outline : {m : Map} {f : Face} {text : List ℕ} → shown_map h ≡ Some m → text ≡ text_of (outline_answer m f) → IsAnswered h (Some (line.Outline f)) text h
  -- the plan of the map that is shown
  printed : {m : Map} {text : List ℕ} → shown_map h ≡ Some m → text ≡ text_of (plan_records m) → IsAnswered h (Some line.Print) text h

-- the records of a script are answered in turn by these bytes
abbrev pub AreAnswered : History → List (List (List ℕ)) → List ℕ → History → Type 0
AreAnswered old [] text new = (text ≡ []) × (new ≡ old)
AreAnswered old (fields ∷ script) text new =
    (mid : History) × (first : List ℕ) × (rest : List ℕ) × IsAnswered old (line_of fields) first mid × AreAnswered mid script rest new × (text ≡ first ++ rest)

-- ---- Want of memory

-- the line is a command that the history answers, and not by want of memory, and it goes on as that one
abbrev pub IsCarriedOut : History → Option Line → History → Type 0
IsCarriedOut h (Some (line.Command c)) end = (a : Answer) × Step h c a end × ¬ (a ≡ answer.Refused refusal.Memory)
IsCarriedOut h (Some line.Areas) end = ⊥
IsCarriedOut h (Some (line.Outline f)) end = ⊥
IsCarriedOut h (Some line.Print) end = ⊥
IsCarriedOut h None end = ⊥

-- memory ran out, and a record that stands for this line has no answer: nothing was done, or its command was carried out
abbrev pub IsUntold : History → Option Line → Untold → History → Type 0
IsUntold h l untold.Undone end = end ≡ h
IsUntold h l untold.Done end = IsCarriedOut h l end

-- a text that was submitted has no answer: nothing was done, or the command of its one record was carried out
abbrev pub IsSubmitFault : History → List ℕ → SubmitFault → History → Type 0
IsSubmitFault h text fault.NotOne end = end ≡ h
IsSubmitFault h text fault.Undone end = end ≡ h
IsSubmitFault h text fault.Done end = (fields : List (List ℕ)) × IsWhole text (fields ∷ []) × IsCarriedOut h (line_of fields) end
