use Rattle.std.proofs.Common.{map, take}
use Rattle.cell_grid.specs.Kept.{HoldsSame}
use Rattle.edit_records.specs.Gridded.{HoldsJust, string_entry}
use Rattle.edit_records.proofs.grid.put_strings.Given as goal

abbrev pub invariant-loop-place : goal.invariant-loop-place
invariant-loop-place l = record {
  strings : HoldsJust (map (string_entry l.map) (take l.place l.map.strings)) l.grid.strings;
  points : HoldsSame l.fn.grid.points l.grid.points;
}
