-- The history that an editor stands for.
use Rattle.std.specs.Prelude.{◌≡◌, ℕ, ◌+◌, List, length, Some, refl}
use Rattle.std.specs.List.{slice_get}
use Rattle.std.specs.Coded.{Coded, code_by, coded×, coded_list, coded_ℕ}
use Rattle.cad_map.specs.Map.{Map}
use Rattle.cad_history.specs.declared.commands.Command.{Command}
use Rattle.cad_history.specs.declared.commands.Answer.{Answer}
use Rattle.cad_history.specs.History.{History, IsHistory, shown_map}
use Rattle.cad_history.specs.Steps.{Step, Run}

-- an editor: its store, the records of the edits from the floor on, how many of them stand, and its depth
pub record EditorState (Store Entry : Type 0) : Type 0 where
  pub store : Store
  pub records : List Entry
  pub place : ℕ
  pub depth : ℕ

-- an editor's state can be kept where its store and its records can
abbrev pub editor_code : {Store Entry : Type 0} → Coded Store → Coded Entry → Coded (EditorState Store Entry)
editor_code {Store} {Entry} c d = code_by (Store × (List Entry × (ℕ × ℕ))) (coded× c (coded× (coded_list d) (coded× coded_ℕ coded_ℕ))) (λ e. (e.store, (e.records, (e.place, e.depth)))) (λ p. record { store = p.0; records = p.1.0; place = p.1.1.0; depth = p.1.1.1 }) (λ _. refl)

-- Over any stores, which stand for the map map_of, and any records, which lead from a map to the next by belongs.
module _ {Store Entry : Type 0} (map_of : Store → Map) (belongs : Entry → Map → Map → Type 0) where
  -- The store stands for the map that is shown, and the records from first to last belong to the pairs of
  -- neighbours from the floor to the last map.
  pub record StandsFor (e : EditorState Store Entry) (h : History) : Type 0 where
    pub history : IsHistory h
    pub shows : shown_map h ≡ Some (map_of e.store)
    pub pairs : (i : ℕ) (r : Entry) (before after : Map) → slice_get e.records i ≡ Some r → slice_get h.maps (h.floor + i) ≡ Some before → slice_get h.maps (h.floor + i + 1) ≡ Some after → belongs r before after
    pub each_pair : h.floor + length e.records + 1 ≡ length h.maps
    pub at_place : h.floor + e.place ≡ h.place
    pub of_depth : e.depth ≡ h.depth

  -- it stands for a history
  abbrev pub StandsForSome : EditorState Store Entry → Type 0
  StandsForSome e = (h : History) × StandsFor e h

  -- from each history that the editor stood for, a step of it leads to one that it stands for then
  abbrev pub Goes : EditorState Store Entry → Command → Answer → EditorState Store Entry → Type 0
  Goes old c a new = (h : History) → StandsFor old h → (end : History) × Step h c a end × StandsFor new end

  -- and so do steps in turn
  abbrev pub GoesAlong : EditorState Store Entry → List Command → List Answer → EditorState Store Entry → Type 0
  GoesAlong old commands answers new = (h : History) → StandsFor old h → (end : History) × Run h commands answers end × StandsFor new end
