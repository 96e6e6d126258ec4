-- Entries spread over the cells of one size that their boxes touch.
use Rattle.std.specs.Prelude.{◌≡◌, ℕ, ◌<◌, ◌≤◌, Bool, ◌∷◌, [], ◌++◌, nat_le, nat_eq, count_by, ◌⊎◌, ◌↔◌, IsPermutation, if◌then◌else◌}
use Rattle.std.specs.List.{Contains}
use Rattle.geo_exact.specs.Position.{OnTheMap}
use Rattle.cad_rows.specs.Limits.{IsNumber}
use Rattle.cell_grid.specs.declared.block.Block.{Block}
use Rattle.cell_grid.specs.declared.block.CellSize.{CellSize}
use Rattle.cell_grid.specs.declared.entry.Entry.{Entry}
use Rattle.cell_grid.specs.Entries.{is_same_entry}
use Rattle.cell_grid.specs.Cells.{IsCellOf, IsCellSize, block_of, cell_count, cell_at}
use Rattle.cell_grid.specs.Held.{HeldEntries, entries_at}

-- the cells of a size that an entry's box touches
abbrev pub block_at : CellSize → Entry → Block
block_at size e = block_of size e.from e.to

-- in how many cells of a size an entry may stand: in 64 squares, or in 8 lanes
abbrev pub most_cells : CellSize → ℕ
most_cells size = if nat_eq size.width_bits size.height_bits then 64 else 8

-- the entry's box touches no more cells than an entry may stand in
abbrev pub fits : CellSize → Entry → Bool
fits size e = nat_le (cell_count (block_at size e)) (most_cells size)

-- the number is one of a row, and the ends are on the map
pub record IsSoundEntry (e : Entry) : Type 0 where
  pub number : IsNumber e.number
  pub from : OnTheMap e.from
  pub to : OnTheMap e.to

-- the entry stands in a cell
abbrev pub Stands : HeldEntries → Entry → Type 0
Stands lists e = (cell : ℕ) × Contains (entries_at lists cell) e

-- no entry does
abbrev pub StandsNone : HeldEntries → Type 0
StandsNone lists = (e : Entry) → ¬ Stands lists e

-- the same entries stand there as before
abbrev pub StandsSame : HeldEntries → HeldEntries → Type 0
StandsSame old new = (e : Entry) → Stands new e ↔ Stands old e

-- the same, and this entry
abbrev pub StandsOneMore : HeldEntries → Entry → HeldEntries → Type 0
StandsOneMore old entry new = (e : Entry) → Stands new e ↔ (Stands old e ⊎ (e ≡ entry))

-- the same, but this entry
abbrev pub StandsOneLess : HeldEntries → Entry → HeldEntries → Type 0
StandsOneLess old entry new = (e : Entry) → Stands new e ↔ (Stands old e × ¬ (e ≡ entry))

-- each entry is sound and stands once in each cell of its box and in no other
pub record IsSpread (size : CellSize) (lists : HeldEntries) : Type 0 where
  pub cells : IsCellSize size
  pub in_box : (cell : ℕ) (e : Entry) → Contains (entries_at lists cell) e
      → IsCellOf (block_at size e) cell
  pub everywhere : (from cell : ℕ) (e : Entry) → Contains (entries_at lists from) e
      → IsCellOf (block_at size e) cell → Contains (entries_at lists cell) e
  pub once : (cell : ℕ) (e : Entry) → count_by (is_same_entry e) (entries_at lists cell) ≤ 1
  pub sound : (e : Entry) → Stands lists e → IsSoundEntry e

-- the entry was put into so many cells of the block, and nothing else has changed
pub record IsPutIn (old : HeldEntries) (b : Block) (e : Entry) (n : ℕ) (new : HeldEntries) : Type 0 where
  pub there : (k : ℕ) → k < n → entries_at new (cell_at b k) ≡ entries_at old (cell_at b k) ++ e ∷ []
  pub others : (cell : ℕ) → ((k : ℕ) → k < n → ¬ (cell_at b k ≡ cell))
      → entries_at new cell ≡ entries_at old cell

-- the entry was taken out of so many cells of the block, and nothing else has changed
pub record IsTakenOut (old : HeldEntries) (b : Block) (e : Entry) (n : ℕ) (new : HeldEntries) : Type 0 where
  pub there : (k : ℕ) → k < n → IsPermutation (entries_at old (cell_at b k))
      (e ∷ entries_at new (cell_at b k))
  pub others : (cell : ℕ) → ((k : ℕ) → k < n → ¬ (cell_at b k ≡ cell))
      → entries_at new cell ≡ entries_at old cell
