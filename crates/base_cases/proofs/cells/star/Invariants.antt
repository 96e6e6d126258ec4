use Rattle.std.proofs.Common.{◌≡◌, ◌<◌, []}
use Rattle.std.specs.List.{Contains}
use Rattle.cell_grid.specs.declared.entry.Entry.{Entry}
use Rattle.cell_grid.specs.Together.{AreDistinct}
use Rattle.base_cases.proofs.cells.star.Given as goal

-- none of them has the next number, nor stands twice
abbrev pub invariant-loop-number : goal.invariant-loop-number
invariant-loop-number g l = record {
  below : (e : Entry) → Contains l.entries.strings e → e.number < l.number;
  once : AreDistinct l.entries.strings;
  points : l.entries.points ≡ [];
}
