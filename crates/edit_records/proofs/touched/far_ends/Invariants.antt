use Rattle.std.proofs.Common.{◌≡◌, ◌<◌, map, take}
use Rattle.std.specs.Prelude.{IsPermutation}
use Rattle.cad_map.specs.Map.{far_end, strings_at}
use Rattle.edit_records.proofs.touched.far_ends.Given as goal

-- the far ends so far; and once a string was told, they are the point's
abbrev pub invariant-loop-place : goal.invariant-loop-place
invariant-loop-place g l = record {
  points : l.points.items ≡ map (λ s. far_end s l.point) (take l.place (g.M.MapView.view_strings l.map l.point));
  each : 0 < l.place → IsPermutation (strings_at (g.M.MapView.map l.map) l.point) (g.M.MapView.view_strings l.map l.point);
}
