-- A history: the maps, the edits between them, and where in it we stand.
use Rattle.std.specs.Prelude.{◌≡◌, ℕ, ◌+◌, ◌-◌, ◌<◌, ◌≤◌, max, List, [], ◌∷◌, ◌++◌, length, take, Option, Some}
use Rattle.std.specs.List.{slice_get}
use Rattle.cad_rows.specs.declared.edits.Edit.{Edit}
use Rattle.cad_map.specs.Map.{Map}
use Rattle.cad_map.specs.Valid.{IsValid}
use Rattle.cad_map.specs.Outcome.{LeadsTo}

-- The maps from the opened one on and the edits between them, the place of the map that is shown, the place
-- that undo goes back to at most, and how many edits can be undone.
pub record History : Type 0 where
  pub maps : List Map
  pub edits : List Edit
  pub place : ℕ
  pub floor : ℕ
  pub depth : ℕ

-- the map that was opened
abbrev pub opened : History → Option Map
opened h = slice_get h.maps 0

-- the map that is shown
abbrev pub shown_map : History → Option Map
shown_map h = slice_get h.maps h.place

-- each map, the opened one too, is valid and led to the next by its edit, and place and floor are in their ranges
pub record IsHistory (h : History) : Type 0 where
  pub each : (i : ℕ) (e : Edit) (before after : Map) → slice_get h.edits i ≡ Some e → slice_get h.maps i ≡ Some before → slice_get h.maps (i + 1) ≡ Some after → LeadsTo before e after
  pub valid : (i : ℕ) (m : Map) → slice_get h.maps i ≡ Some m → IsValid m
  pub one_more : length h.maps ≡ length h.edits + 1
  pub above_floor : h.floor ≤ h.place
  pub at_a_map : h.place < length h.maps
  pub within_depth : length h.maps ≤ h.floor + h.depth + 1

-- the history of one map that was opened
abbrev pub beginning : Map → ℕ → History
beginning m depth = record { maps = m ∷ []; edits = []; place = 0; floor = 0; depth = depth }

-- An edit has led to a map: what comes after the place is cut off, the edit and its map come last and the map is
-- shown, and the floor rises where more edits than the depth could be undone.
abbrev pub with_edit : History → Edit → Map → History
with_edit h e m = record {
  maps = take (h.place + 1) h.maps ++ m ∷ [];
  edits = take h.place h.edits ++ e ∷ [];
  place = h.place + 1;
  floor = max h.floor (h.place + 1 - h.depth);
  depth = h.depth;
}

-- there is an edit to go back
abbrev pub CanUndo : History → Type 0
CanUndo h = h.floor < h.place

-- there is an edit to go on
abbrev pub CanRedo : History → Type 0
CanRedo h = h.place + 1 < length h.maps

-- the history, one edit back
abbrev pub undone : History → History
undone h = record h { place = h.place - 1 }

-- the history, one edit on
abbrev pub redone : History → History
redone h = record h { place = h.place + 1 }

-- the edits that stand
abbrev pub standing : History → List Edit
standing h = take h.place h.edits

-- the edits, applied in order, lead from one map to the other
abbrev pub LeadAlong : Map → List Edit → Map → Type 0
LeadAlong old [] new = new ≡ old
LeadAlong old (e ∷ edits) new = (mid : Map) × LeadsTo old e mid × LeadAlong mid edits new
