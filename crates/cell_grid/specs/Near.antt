-- The entries near a segment.
use Rattle.std.specs.Prelude.{◌≡◌, IsTrue, ℕ, zero, suc, ◌+◌, ◌-◌, ◌<◌, ◌≤◌, List, [], ◌∷◌, ◌++◌, length, filter, if◌then◌else◌}
use Rattle.geo_exact.specs.Position.{Position}
use Rattle.cell_grid.specs.declared.block.CellSize.{CellSize}
use Rattle.cell_grid.specs.declared.bounds.Bounds.{Bounds}
use Rattle.cell_grid.specs.declared.entry.Entry.{Entry}
use Rattle.cell_grid.specs.declared.near.Scope.{Scope}
use Rattle.cell_grid.specs.Bounds.{is_near}
use Rattle.cell_grid.specs.Cells.{IsBlock, block_of, cell_count, cell_at, is_cell_of}
use Rattle.cell_grid.specs.Held.{HeldEntries, entries_at, cell_in_turn, list_in_turn}

-- the cells that are looked at are those that the segment's box touches
pub record IsScope (size : CellSize) (from to : Position) (s : Scope) : Type 0 where
  pub block : s.block ≡ block_of size from to
  pub is_block : IsBlock s.block

-- how many lists are looked at: one for each cell, or all that there are
abbrev pub searched_count : HeldEntries → Scope → ℕ
searched_count lists s = if s.all then length lists else cell_count s.block

-- the k-th of them: of a cell of the box, or in turn, where those of other cells are passed over
abbrev pub searched_list : HeldEntries → Scope → ℕ → List Entry
searched_list lists s k =
    if s.all
    then (if is_cell_of s.block (cell_in_turn lists k) then list_in_turn lists k else [])
    else entries_at lists (cell_at s.block k)

-- n lists from a place on, one after another
abbrev pub lists_in_turn : (ℕ → List Entry) → ℕ → ℕ → List Entry
lists_in_turn list k zero = []
lists_in_turn list k (suc n) = list k ++ lists_in_turn list (k + 1) n

-- the lists from a place on
abbrev pub lists_from : HeldEntries → Scope → ℕ → List Entry
lists_from lists s k = lists_in_turn (searched_list lists s) k (searched_count lists s - k)

-- the list is some entries that aren't near, one that is, and the rest
pub record IsFirstNear (w : Bounds) (list : List Entry) (entry : Entry) (rest : List Entry) : Type 0 where
  pub before : List Entry
  pub is : list ≡ before ++ (entry ∷ rest)
  pub none_before : filter (is_near w) before ≡ []
  pub near : IsTrue (is_near w entry)

-- the first near entry of the lists from a place on: it stands in the list before `next`, the rest is
-- what comes after it there, and nothing near stands in the lists before that one
pub record IsFirstFrom (lists : HeldEntries) (s : Scope) (w : Bounds) (from : ℕ) (entry : Entry)
    (rest : List Entry) (next : ℕ) : Type 0 where
  pub past : from < next
  pub stands : IsFirstNear w (searched_list lists s (next - 1)) entry rest
  pub none_before : (k : ℕ) → from ≤ k → k < next - 1 → filter (is_near w) (searched_list lists s k) ≡ []
