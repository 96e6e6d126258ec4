use Rattle.std.proofs.Common.{◌≡◌, ◌<◌, map, take}
use Rattle.std.specs.Prelude.{IsPermutation}
use Rattle.cad_map.specs.Map.{strings_at}
use Rattle.edit_records.proofs.touched.strings_of.Given as goal

-- the numbers so far; and once a string was told, they are the point's
abbrev pub invariant-loop-place : goal.invariant-loop-place
invariant-loop-place g l = record {
  strings : l.strings.items ≡ map (λ s. s.number) (take l.place (g.M.MapView.view_strings l.map l.point));
  each : 0 < l.place → IsPermutation (strings_at (g.M.MapView.map l.map) l.point) (g.M.MapView.view_strings l.map l.point);
}
