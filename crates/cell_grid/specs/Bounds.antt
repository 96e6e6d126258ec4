-- The bounds of boxes.
use Rattle.std.specs.Prelude.{ℤ, Bool, ◌&&◌, ◌||◌, int_le}
use Rattle.std.specs.Int.{int_min, int_max}
use Rattle.geo_exact.specs.Position.{Position}
use Rattle.cell_grid.specs.declared.bounds.Bounds.{Bounds}
use Rattle.cell_grid.specs.declared.entry.Entry.{Entry}

-- the bounds of the box of a segment
abbrev pub bounds_of : Position → Position → Bounds
bounds_of a b = record {
  west = int_min a.x b.x;
  east = int_max a.x b.x;
  south = int_min a.y b.y;
  north = int_max a.y b.y;
}

-- the stretch between a and b has a number in common with the one from low to high
abbrev pub reaches : ℤ → ℤ → ℤ → ℤ → Bool
reaches low high a b = (int_le low a || int_le low b) && (int_le a high || int_le b high)

-- the box of an entry has a location in common with the box of the bounds
abbrev pub is_near : Bounds → Entry → Bool
is_near w e = reaches w.west w.east e.from.x e.to.x && reaches w.south w.north e.from.y e.to.y
