-- The slots of a list of rows, and the rows read from them.
use Rattle.std.specs.Prelude.{◌≡◌, ◌+◌, ◌<◌, ℕ, List, [], ◌∷◌, ◌++◌, length, map, Option, None, Some, IsSome, nat_eq, slice_get, slice_set, slice_index, insert, not, ◌==◌, filter, if◌then◌else◌}
use Rattle.entry_list.specs.Totals.{total_before}
use Rattle.std.specs.Map.{lookup, keys_of}

-- slots in order: each has a number, and the row of the number or none
abbrev pub Slots : Type 0 → Type 0
Slots V = List (ℕ × Option V)

module _ {V : Type 0} where
  -- the row of a slot with its number, if it has one
  abbrev pub row_of : ℕ → Option V → List (ℕ × V)
  row_of number None = []
  row_of number (Some row) = (number, row) ∷ []

  -- the rows with their numbers, in order; an empty slot has none
  abbrev pub rows_of : Slots V → List (ℕ × V)
  rows_of [] = []
  rows_of (e ∷ es) = row_of e.0 e.1 ++ rows_of es

  -- the numbers of the rows, in order
  abbrev pub numbers_of : Slots V → List ℕ
  numbers_of slots = keys_of (rows_of slots)

  -- the row with the number
  abbrev pub row_at : ℕ → Slots V → Option V
  row_at number slots = lookup (nat_eq number) (rows_of slots)

  -- the number has a slot, so that a row with it can be put in without memory
  abbrev pub HasSlot : Slots V → ℕ → Type 0
  HasSlot slots number = IsSome (lookup (nat_eq number) slots)

  -- new is old with an empty slot for the number behind all others, if it had none
  abbrev pub AddsSlot : Slots V → Slots V → ℕ → Type 0
  AddsSlot old new number = ¬ (HasSlot old number) → new ≡ old ++ (number, None) ∷ []

  -- each number that had a slot has one
  abbrev pub KeepsSlots : Slots V → Slots V → Type 0
  KeepsSlots old new = (number : ℕ) → HasSlot old number → HasSlot new number

  -- 1 for a slot with a row, 0 for an empty one
  abbrev pub mark_of : Option V → ℕ
  mark_of None = 0
  mark_of (Some row) = 1

  -- the mark of each slot
  abbrev pub marks_of : Slots V → List ℕ
  marks_of slots = map (λ e. mark_of e.1) slots

  -- how many rows stand before the slot at i
  abbrev pub rows_before : ℕ → Slots V → ℕ
  rows_before i slots = total_before i (marks_of slots)

  -- the k-th of the marks is that of the k-th slot
  abbrev pub HasMark : Slots V → List ℕ → ℕ → Type 0
  HasMark slots marks k = slice_index marks k ≡ slice_index (marks_of slots) k

  -- the marks are those of the slots, and the count is that of the rows
  abbrev pub AreCounted : Slots V → List ℕ → ℕ → Type 0
  AreCounted slots marks count = (marks ≡ marks_of slots) × (count ≡ length (rows_of slots))

  -- no slot has a number above this one
  abbrev pub NoneAbove : ℕ → Slots V → Type 0
  NoneAbove greatest slots =
      (number : ℕ) → greatest < number → lookup (nat_eq number) slots ≡ None

  -- the slot at i has a row with the number
  abbrev pub IsRowSlot : Slots V → ℕ → ℕ → Type 0
  IsRowSlot slots i number = (row : V) × (slice_get slots i ≡ Some (number, Some row))

  -- the slot at i has the number, and no row
  abbrev pub IsEmptySlot : Slots V → ℕ → ℕ → Type 0
  IsEmptySlot slots i number = slice_get slots i ≡ Some (number, None)

  -- the row with the number stands at the place
  abbrev pub StandsAt : Slots V → ℕ → ℕ → V → Type 0
  StandsAt slots place number row = slice_get (rows_of slots) place ≡ Some (number, row)

  -- the rows of new are those of old with this one put in at the place
  abbrev pub PutsIn : Slots V → Slots V → ℕ → ℕ → V → Type 0
  PutsIn old new place number row = rows_of new ≡ insert (rows_of old) place (number, row)

  -- new is old with the row in the place of the one that the number had there
  abbrev pub ReplacesRow : List (ℕ × V) → List (ℕ × V) → ℕ → V → V → Type 0
  ReplacesRow old new number before row =
      (place : ℕ) × (slice_get old place ≡ Some (number, before))
      × (new ≡ slice_set old place (number, row))

  -- the rows without the one with the number
  abbrev pub without_number : ℕ → List (ℕ × V) → List (ℕ × V)
  without_number number rows = filter (λ r. not (r.0 == number)) rows

  -- the rows with this row in the place of the one with the number
  abbrev pub with_number : ℕ → V → List (ℕ × V) → List (ℕ × V)
  with_number number row rows = map (λ r. if r.0 == number then (number, row) else r) rows

  -- the key of the next spare slot: the first above 32 bits, and the number of slots
  abbrev pub spare_key : Slots V → ℕ
  spare_key slots = 4294967296 + length slots
