use Rattle.std.proofs.Common.{◌≡◌, ◌<◌, map, take}
use Rattle.std.specs.Prelude.{IsPermutation}
use Rattle.cad_map.specs.Map.{strings_at}
use Rattle.cad_near.specs.Rays.{ray_of}
use Rattle.cad_near.proofs.rays.rays_at.Given as goal

-- the strings so far are seen, and once one was told they are the point's
abbrev pub invariant-loop-place : goal.invariant-loop-place
invariant-loop-place g l =
    let m = g.M.MapView.map l.map in
    let strings = g.M.MapView.view_strings l.map l.point in record {
      seen : l.rays.items ≡ map (ray_of m l.point) (take l.place strings);
      each : 0 < l.place → IsPermutation (strings_at m l.point) strings;
    }
