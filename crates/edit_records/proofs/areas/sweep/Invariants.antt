use Rattle.std.proofs.Common.{◌<◌, take}
use Rattle.std.specs.Prelude.{IsPermutation}
use Rattle.cad_rows.specs.declared.names.Face.{Face}
use Rattle.cad_map.specs.Map.{strings_at}
use Rattle.cad_laws.specs.Areas.{sum_of_strings, swept_beside}
use Rattle.cad_near.specs.KeptAreas.{Gains}
use Rattle.edit_records.proofs.areas.sweep.Given as goal

-- what was gained beside the strings so far; and once a string was told, they are the point's
abbrev pub invariant-loop-place : goal.invariant-loop-place
invariant-loop-place g l = record {
  gains : (f : Face) → Gains l.fn.areas l.areas f
      (sum_of_strings (swept_beside (g.M.MapView.map l.map) f l.point l.from l.to)
      (take l.place (g.M.MapView.view_strings l.map l.point)));
  each : 0 < l.place → IsPermutation (strings_at (g.M.MapView.map l.map) l.point)
      (g.M.MapView.view_strings l.map l.point);
}
