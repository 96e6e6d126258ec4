-- A grid from inside.
use Rattle.std.specs.Prelude.{◌≡◌}
use Rattle.cell_grid.specs.declared.grid.CellGrid.TheInside.{Inside}
use Rattle.cell_grid.specs.declared.entry.Entry.{Entry}
use Rattle.cell_grid.specs.Kept.{kept, AreSpread, IsHeld}
use Rattle.cell_grid.specs.Grid.{Grid}

-- what the grid keeps of strings, and of points
abbrev pub grid_of : Inside → Grid
grid_of g = record { strings = kept g.strings; points = kept g.points }

-- strings and points stand in the cells of their boxes, and a point's entry has one position
pub record IsKept (g : Inside) : Type 0 where
  pub strings : AreSpread g.strings
  pub points : AreSpread g.points
  pub spots : (e : Entry) → IsHeld (kept g.points) e → e.from ≡ e.to
