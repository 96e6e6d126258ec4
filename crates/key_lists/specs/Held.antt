-- Lists under keys, and the room that each has.
use Rattle.std.specs.Prelude.{◌≡◌, ℕ, ◌+◌, ◌<◌, ◌≤◌, List, [], length, Option, nat_eq, option_map, unwrap_or, None}
use Rattle.std.specs.Map.{lookup}
use Rattle.number_table.specs.Rows.{HasNumberAt}
use Rattle.key_lists.specs.Kept.{Kept}

-- under each key that was ever given room a list
abbrev pub Held : Type 0 → Type 0
Held X = List (ℕ × Kept X)

module _ {X : Type 0} where
  -- the list under a key, if the key was ever given room
  abbrev pub list_at : Held X → ℕ → Option (Kept X)
  list_at held key = lookup (nat_eq key) held

  -- the items under a key; none where the key was never given room
  abbrev pub items_at : Held X → ℕ → List X
  items_at held key = unwrap_or (option_map (λ list. list.items) (list_at held key)) []

  -- how many items fit under a key without memory; none where the key was never given room
  abbrev pub capacity_at : Held X → ℕ → ℕ
  capacity_at held key = unwrap_or (option_map (λ list. list.capacity) (list_at held key)) 0

  -- so many items more fit under the key without memory
  abbrev pub HasRoomAt : Held X → ℕ → ℕ → Type 0
  HasRoomAt held key more = length (items_at held key) + more ≤ capacity_at held key

  -- the lists under the other keys are as they were, with their room
  abbrev pub KeepsOthers : ℕ → Held X → Held X → Type 0
  KeepsOthers key old new = (other : ℕ) → ¬ (key ≡ other) → list_at new other ≡ list_at old other

  -- the items under every key are as they were
  abbrev pub IsSame : Held X → Held X → Type 0
  IsSame old new = (key : ℕ) → items_at new key ≡ items_at old key

  -- no key above this one was ever given room
  abbrev pub NoneAbove : ℕ → Held X → Type 0
  NoneAbove greatest held = (key : ℕ) → greatest < key → list_at held key ≡ None

  -- the list at the place is that under the key
  abbrev pub IsUnderAt : Held X → ℕ → ℕ → Type 0
  IsUnderAt held place key = HasNumberAt held place key
