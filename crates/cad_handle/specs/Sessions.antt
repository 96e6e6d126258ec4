-- What an editor stands for, and what the calls of a handle do to it.
use Rattle.std.specs.Prelude.{◌≡◌, ◌≤◌, ℕ, ◌+◌, List, [], ◌∷◌, length, Option, Some, None, option_map}
use Rattle.geo_exact.specs.Position.{Position}
use Rattle.cad_map.specs.Map.{Map, point_of}
use Rattle.cad_history.specs.History.{History, beginning, shown_map}
use Rattle.cad_history.specs.Standing.{EditorState, StandsFor, StandsForSome}
use Rattle.map_parts.specs.Parts.{Parts, map_of}
use Rattle.edit_records.specs.Record.{Belongs}
use Rattle.edit_records.specs.declared.record.SmallRecord.{SmallRecord}
use Rattle.cad_files.specs.Input.{IsWhole, AreTaken}
use Rattle.cad_files.specs.Rows.{Rows, plan_limit}
use Rattle.cad_files.specs.Plan.{plan_of, opened}
use Rattle.cad_files.specs.Building.{IsBuilt}
use Rattle.cad_files.specs.Line.{line_of}
use Rattle.cad_session.specs.Answered.{IsAnswered, IsCarriedOut}
use Rattle.cad_views.specs.Shape.{IsShape}
use Rattle.cad_handle.specs.declared.state.State.{State}

-- the editor stands for this history
abbrev pub Shows : EditorState Parts SmallRecord → History → Type 0
Shows editor h = StandsFor map_of (λ r before after. Belongs r before after) editor h

-- it stands for a history
abbrev pub ShowsSome : EditorState Parts SmallRecord → Type 0
ShowsSome editor = StandsForSome map_of (λ r before after. Belongs r before after) editor

-- the editor was opened on the map of the text's plan, and there is no answer yet
abbrev pub IsOpenedOn : List ℕ → ℕ → State → Type 0
IsOpenedOn text depth state =
    (plan : List (List (List ℕ))) × (rows : Rows) × (m : Map) × AreTaken text plan × (plan_of plan ≡ opened rows) × (length plan ≤ plan_limit + 2) × IsBuilt rows m
    × Shows state.editor (beginning m depth) × (state.answer.items ≡ [])

-- ---- Behind a handle, where there may be no state

-- what each call asks of a handle and leaves of it: it is closed, or its editor stands for a history
abbrev pub IsUsable : Option State → Type 0
IsUsable (Some state) = ShowsSome state.editor
IsUsable None = Unit {0}

-- it was closed, and is open on the map of the text's plan
abbrev pub IsOpened : List ℕ → ℕ → Option State → Option State → Type 0
IsOpened text depth None (Some new) = IsOpenedOn text depth new
IsOpened text depth None None = ⊥
IsOpened text depth (Some old) new = ⊥

-- it was open and is, and the one record of the text has this answer, which is kept
abbrev pub IsSubmitted : List ℕ → List ℕ → Option State → Option State → Type 0
IsSubmitted text answer (Some old) (Some new) =
    ((h : History) → Shows old.editor h →
    (fields : List (List ℕ)) × (end : History) × IsWhole text (fields ∷ []) × IsAnswered h (line_of fields) answer end × Shows new.editor end)
    × (new.answer.items ≡ answer)
IsSubmitted text answer (Some old) None = ⊥
IsSubmitted text answer None new = ⊥

-- it was open and is, its editor stands for the histories that it stood for, and no answer is kept
abbrev pub IsUndone : Option State → Option State → Type 0
IsUndone (Some old) (Some new) = ((h : History) → Shows old.editor h → Shows new.editor h) × (new.answer.items ≡ [])
IsUndone (Some old) None = ⊥
IsUndone None new = ⊥

-- it was open and is, the command of the one record of the text was carried out, and no answer is kept
abbrev pub IsDoneUntold : List ℕ → Option State → Option State → Type 0
IsDoneUntold text (Some old) (Some new) =
    ((h : History) → Shows old.editor h →
    (fields : List (List ℕ)) × (end : History) × IsWhole text (fields ∷ []) × IsCarriedOut h (line_of fields) end × Shows new.editor end)
    × (new.answer.items ≡ [])
IsDoneUntold text (Some old) None = ⊥
IsDoneUntold text None new = ⊥

-- the state's latest answer is this
abbrev pub HasAnswer : List ℕ → Option State → Type 0
HasAnswer answer (Some state) = state.answer.items ≡ answer
HasAnswer answer None = ⊥

-- the map that is shown has the point there, or it hasn't the point
abbrev pub IsPosition : ℕ → Option Position → Option State → Type 0
IsPosition number found (Some state) = (h : History) (m : Map) → Shows state.editor h → shown_map h ≡ Some m → found ≡ option_map (λ r. r.position) (point_of m number)
IsPosition number found None = ⊥

-- the parcel of the map that is shown has this shape, or the map hasn't the parcel
abbrev pub IsShapeOf : ℕ → Option (List ℕ) → Option State → Type 0
IsShapeOf number text (Some state) = (h : History) (m : Map) → Shows state.editor h → shown_map h ≡ Some m → IsShape m number text
IsShapeOf number text None = ⊥

-- it is open as it was, with this latest answer
abbrev pub KeepsAnswer : List ℕ → Option State → Option State → Type 0
KeepsAnswer answer (Some old) (Some new) = (new.editor ≡ old.editor) × (new.answer.items ≡ answer)
KeepsAnswer answer (Some old) None = ⊥
KeepsAnswer answer None new = ⊥
