use Rattle.std.proofs.Common.{◌≢◌, ◌<◌, take}
use Rattle.std.specs.Prelude.{IsPermutation}
use Rattle.std.specs.List.{AllByRecursion}
use Rattle.cad_map.specs.Map.{far_end, strings_at}
use Rattle.edit_records.proofs.shared_strings.span_joining.Given as goal

-- none of the strings so far leads there; and once a string was told, they are the point's
abbrev pub invariant-loop-place : goal.invariant-loop-place
invariant-loop-place g l = record {
  none : AllByRecursion (λ s. far_end s l.from ≢ l.to) (take l.place (g.M.MapView.view_strings l.map l.from));
  each : 0 < l.place → IsPermutation (strings_at (g.M.MapView.map l.map) l.from) (g.M.MapView.view_strings l.map l.from);
}
