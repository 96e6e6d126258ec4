-- What the lines of a journal do to a history.
use Rattle.std.specs.Prelude.{◌≡◌, ℕ, Bool, true, false, List, [], ◌∷◌, ◌++◌, Some}
use Rattle.cad_history.specs.History.{History}
use Rattle.cad_history.specs.Steps.{Step}
use Rattle.cad_history.specs.declared.commands.Command.{Command}
use Rattle.cad_history.specs.declared.commands.Answer.TheVariants as answer
use Rattle.cad_files.specs.Answers.{answer_record}
use Rattle.cad_files.specs.Line.{line_of}
use Rattle.cad_files.specs.Texts.{Record, record_text, text_of}
use Rattle.cad_files.specs.declared.line.Line.TheVariants as line
use Rattle.map_journal.specs.Journal.{Line}

-- the line is the record as the default writer writes it, without its line feed
abbrev pub IsLineOf : Line → Record → Type 0
IsLineOf text fields = text ++ 10 ∷ [] ≡ record_text fields

-- the answer to a command that was carried out
abbrev pub done_text : List ℕ
done_text = text_of (answer_record answer.Done ∷ [])

-- the record asks for a command, which is carried out
abbrev pub IsDone : History → Record → History → Type 0
IsDone old fields new = (c : Command) × (line_of fields ≡ Some (line.Command c)) × Step old c answer.Done new

-- that, or the history is the same
abbrev pub IsDoneIf : Bool → History → Record → History → Type 0
IsDoneIf true old fields new = IsDone old fields new
IsDoneIf false old fields new = new ≡ old

-- the lines of a journal in turn, each of which is carried out
abbrev pub Replays : History → List Line → History → Type 0
Replays old [] new = new ≡ old
Replays old (text ∷ lines) new =
    (fields : Record) × (mid : History) × IsLineOf text fields × IsDone old fields mid × Replays mid lines new
