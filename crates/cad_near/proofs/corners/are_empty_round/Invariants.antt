use Rattle.std.proofs.Common.{◌<◌, take}
use Rattle.std.specs.Prelude.{IsPermutation}
use Rattle.std.specs.List.{AllByRecursion}
use Rattle.cad_map.specs.Map.{strings_at, far_end}
use Rattle.cad_near.specs.Near.{HasEmptyCornersAt}
use Rattle.cad_near.proofs.corners.are_empty_round.Given as goal

-- the corners at the far ends of the strings so far are empty, and once one was told they are the point's
abbrev pub invariant-loop-place : goal.invariant-loop-place
invariant-loop-place g l =
    let m = g.M.MapView.map l.map in
    let strings = g.M.MapView.view_strings l.map l.point in record {
      empty : AllByRecursion (λ s. HasEmptyCornersAt m (far_end s l.point)) (take l.place strings);
      each : 0 < l.place → IsPermutation (strings_at m l.point) strings;
    }
