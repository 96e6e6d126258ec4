use Rattle.std.proofs.Common.{◌<◌, map, take}
use Rattle.std.specs.Prelude.{IsPermutation}
use Rattle.cad_map.specs.Choice.{MayBeChosen, IsFirst}
use Rattle.cad_map.specs.Map.{strings_at, far_end}
use Rattle.cad_map.proofs.corner.chosen_corner.Given as goal

-- the first of the corners along the strings so far; and once a string was told, they are the point's
abbrev pub invariant-loop-place : goal.invariant-loop-place
invariant-loop-place g l = record {
  first : IsFirst (MayBeChosen (g.M.MapView.map l.map) l.face l.at l.towards
      (map (λ s. far_end s l.at) (take l.place (g.M.MapView.view_strings l.map l.at)))) l.chosen;
  each : 0 < l.place → IsPermutation (strings_at (g.M.MapView.map l.map) l.at) (g.M.MapView.view_strings l.map l.at);
}
