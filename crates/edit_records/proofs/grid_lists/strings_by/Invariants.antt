use Rattle.std.proofs.Common.{◌≡◌, ◌<◌, [], map, take}
use Rattle.std.specs.Prelude.{IsPermutation}
use Rattle.cad_map.specs.Map.{strings_at}
use Rattle.edit_records.specs.GridLists.{span_at}
use Rattle.edit_records.proofs.grid_lists.strings_by.Given as goal

-- the strings so far; and once a string was told, they are the point's
abbrev pub invariant-loop-place : goal.invariant-loop-place
invariant-loop-place g l = record {
  strings : l.entries.strings
      ≡ map (span_at (g.M.MapView.map l.map) l.point l.at) (take l.place (g.M.MapView.view_strings l.map l.point));
  points : l.entries.points ≡ [];
  each : 0 < l.place → IsPermutation (strings_at (g.M.MapView.map l.map) l.point) (g.M.MapView.view_strings l.map l.point);
}
