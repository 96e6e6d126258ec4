-- Entries that are put in or taken out together.
use Rattle.std.specs.Prelude.{◌≡◌, List, ◌⊎◌, ◌↔◌}
use Rattle.std.specs.List.{Contains, AllPairs}
use Rattle.cell_grid.specs.declared.entry.Entry.{Entry}
use Rattle.cell_grid.specs.Spread.{IsSoundEntry}
use Rattle.cell_grid.specs.Kept.{Kept, IsHeld}

-- the same is held, and each of these
abbrev pub HoldsMore : Kept → List Entry → Kept → Type 0
HoldsMore old entries new = (e : Entry) → IsHeld new e ↔ (IsHeld old e ⊎ Contains entries e)

-- the same is held, but none of these
abbrev pub HoldsLess : Kept → List Entry → Kept → Type 0
HoldsLess old entries new = (e : Entry) → IsHeld new e ↔ (IsHeld old e × ¬ Contains entries e)

-- each is sound
abbrev pub AreSound : List Entry → Type 0
AreSound entries = (e : Entry) → Contains entries e → IsSoundEntry e

-- none stands twice among these
abbrev pub AreDistinct : List Entry → Type 0
AreDistinct entries = AllPairs (λ a b. ¬ (a ≡ b)) entries

-- none is held, and none stands twice
pub record AreNew (k : Kept) (entries : List Entry) : Type 0 where
  pub others : (e : Entry) → Contains entries e → ¬ IsHeld k e
  pub once : AreDistinct entries

-- each is held, and none stands twice
pub record AreHeld (k : Kept) (entries : List Entry) : Type 0 where
  pub held : (e : Entry) → Contains entries e → IsHeld k e
  pub once : AreDistinct entries

-- strings and points that are listed
pub record Listed : Type 0 where
  pub strings : List Entry
  pub points : List Entry
