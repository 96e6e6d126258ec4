-- Lists of entries under cells.
use Rattle.std.specs.Prelude.{◌≡◌, ℕ, List, [], Option, nat_eq, option_map, unwrap_or, slice_get, count_by}
use Rattle.std.specs.Map.{lookup}
use Rattle.cell_grid.specs.declared.entry.Entry.{Entry}
use Rattle.cell_grid.specs.declared.held_list.HeldList.{HeldList}
use Rattle.cell_grid.specs.Entries.{is_same_entry}

-- the lists that are held, each under the number of its cell
abbrev pub HeldEntries : Type 0
HeldEntries = List (ℕ × HeldList)

-- the list of a cell, if the cell has one
abbrev pub cell_list : HeldEntries → ℕ → Option (HeldList)
cell_list v c = lookup (nat_eq c) v

-- the entries in a cell
abbrev pub entries_at : HeldEntries → ℕ → List Entry
entries_at v c = unwrap_or (option_map (λ l. l.entries.items) (cell_list v c)) []

-- the other cells are as they were
abbrev pub KeepsOtherCells : ℕ → HeldEntries → HeldEntries → Type 0
KeepsOtherCells c old new = (b : ℕ) → ¬ (c ≡ b) → cell_list new b ≡ cell_list old b

-- every cell has the same entries
abbrev pub HasSameEntries : HeldEntries → HeldEntries → Type 0
HasSameEntries old new = (c : ℕ) → entries_at new c ≡ entries_at old c

-- so often the entry stands in the cell
abbrev pub times_at : HeldEntries → ℕ → Entry → ℕ
times_at v c e = count_by (is_same_entry e) (entries_at v c)

-- every cell has each entry as often as before, in whatever order
abbrev pub HasEachAsOften : HeldEntries → HeldEntries → Type 0
HasEachAsOften old new = (c : ℕ) (e : Entry) → times_at new c e ≡ times_at old c e

-- the cell that was the k-th to come to have a list, and the entries in it
abbrev pub cell_in_turn : HeldEntries → ℕ → ℕ
cell_in_turn v k = unwrap_or (option_map (λ p. p.0) (slice_get v k)) 0

abbrev pub list_in_turn : HeldEntries → ℕ → List Entry
list_in_turn v k = entries_at v (cell_in_turn v k)
