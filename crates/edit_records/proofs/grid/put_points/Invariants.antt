use Rattle.std.proofs.Common.{map, take}
use Rattle.cell_grid.specs.Kept.{HoldsSame}
use Rattle.edit_records.specs.Gridded.{HoldsJust, point_entry}
use Rattle.edit_records.proofs.grid.put_points.Given as goal

abbrev pub invariant-loop-place : goal.invariant-loop-place
invariant-loop-place l = record {
  points : HoldsJust (map point_entry (take l.place l.map.points)) l.grid.points;
  strings : HoldsSame l.fn.grid.strings l.grid.strings;
}
