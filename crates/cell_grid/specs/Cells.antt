-- Cells of a grid, each a number, and blocks of them.
use Rattle.std.specs.Prelude.{◌≡◌, ℕ, ◌+◌, ◌-◌, ◌*◌, ◌/◌, ◌%◌, ◌^◌, ◌<◌, ◌≤◌, ℤ, pos, ◌+ℤ◌, min, max, unsigned_abs, Bool, ◌&&◌, nat_le}
use Rattle.geo_exact.specs.Position.{Position}
use Rattle.cell_grid.specs.declared.block.Block.{Block}
use Rattle.cell_grid.specs.declared.block.CellSize.{CellSize}

-- the sides that may be asked for, in millimetres: from a metre to a thousand kilometres
pub record IsSide (side : ℕ) : Type 0 where
  pub least : 1000 ≤ side
  pub greatest : side ≤ 1000000000

-- two to the power of these is a side that cells may have, in millimetres
pub record AreSideBits (bits : ℕ) : Type 0 where
  pub least : 9 ≤ bits
  pub greatest : bits ≤ 30

-- the width and the height of cells are sides that cells may have
pub record IsCellSize (size : CellSize) : Type 0 where
  pub width : AreSideBits size.width_bits
  pub height : AreSideBits size.height_bits

-- squares with a side
abbrev pub squares_of : ℕ → CellSize
squares_of bits = record { width_bits = bits; height_bits = bits }

-- lanes from west to east, more than a thousand kilometres long and as high as the side
abbrev pub lanes_east_of : ℕ → CellSize
lanes_east_of bits = record { width_bits = 30; height_bits = bits }

-- lanes from south to north, as wide as the side
abbrev pub lanes_north_of : ℕ → CellSize
lanes_north_of bits = record { width_bits = bits; height_bits = 30 }

-- how many numbers a row of cells takes: more than the cells that a row can have
abbrev pub cells_in_row : ℕ
cells_in_row = 67108864

-- a multiple of every side, which takes every coordinate above zero
abbrev pub shift : ℕ
shift = 17179869184

-- the column of an x, or the row of a y: the coordinate divided by the side, rounded down, and
-- counted from one west of every coordinate
abbrev pub place_along : ℕ → ℤ → ℕ
place_along bits z = unsigned_abs (z +ℤ pos shift) / 2 ^ bits

-- columns and rows in order, and none past the last that a row can have
pub record IsBlock (b : Block) : Type 0 where
  pub across : b.left ≤ b.right
  pub up : b.bottom ≤ b.top
  pub right : b.right < cells_in_row
  pub top : b.top < cells_in_row

-- the cells of a size that the box of a segment touches
abbrev pub block_of : CellSize → Position → Position → Block
block_of size a b = record {
  left = min (place_along size.width_bits a.x) (place_along size.width_bits b.x);
  right = max (place_along size.width_bits a.x) (place_along size.width_bits b.x);
  bottom = min (place_along size.height_bits a.y) (place_along size.height_bits b.y);
  top = max (place_along size.height_bits a.y) (place_along size.height_bits b.y);
}

-- how many columns a block has
abbrev pub width : Block → ℕ
width b = b.right - b.left + 1

-- how many cells it has
abbrev pub cell_count : Block → ℕ
cell_count b = width b * (b.top - b.bottom + 1)

-- the cells of a block, row by row
abbrev pub cell_at : Block → ℕ → ℕ
cell_at b k = (b.bottom + k / width b) * cells_in_row + b.left + k % width b

-- the cell is one of the block's
pub record IsCellOf (b : Block) (cell : ℕ) : Type 0 where
  pub x : ℕ
  pub y : ℕ
  pub left : b.left ≤ x
  pub right : x ≤ b.right
  pub bottom : b.bottom ≤ y
  pub top : y ≤ b.top
  pub is : cell ≡ y * cells_in_row + x

-- whether the cell is one of the block's, by its column and row
abbrev pub is_cell_of : Block → ℕ → Bool
is_cell_of b cell =
    nat_le b.left (cell % cells_in_row) && nat_le (cell % cells_in_row) b.right
    && nat_le b.bottom (cell / cells_in_row) && nat_le (cell / cells_in_row) b.top
