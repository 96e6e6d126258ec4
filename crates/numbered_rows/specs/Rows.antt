-- Rows in order of entry, found by their numbers.
use Rattle.std.specs.Prelude.{◌≡◌, ℕ, not, ◌==◌, List, map, filter, find, Option, if◌then◌else◌}
use Rattle.std.specs.List.{AllByRecursion}
use Rattle.std.specs.Map.{values_of}
use Rattle.entry_list.specs.Slots.{Slots, rows_of}

-- the rows without their slots
abbrev pub rows_in : {R : Type 0} → Slots R → List R
rows_in slots = values_of (rows_of slots)

module _ {R : Type 0} (number_of : R → ℕ) where
  -- the row with the number
  abbrev pub row_with : ℕ → List R → Option R
  row_with n rows = find (λ r. number_of r == n) rows

  -- the rows without the one with the number
  abbrev pub without_row : ℕ → List R → List R
  without_row n rows = filter (λ r. not (number_of r == n)) rows

  -- the rows with this one in the place of the one with its number
  abbrev pub with_row : R → List R → List R
  with_row new rows = map (λ r. if number_of r == number_of new then new else r) rows

  -- each entry has its row under the row's number
  abbrev pub AreNumbered : List (ℕ × R) → Type 0
  AreNumbered entries = AllByRecursion (λ e. e.0 ≡ number_of e.1) entries
