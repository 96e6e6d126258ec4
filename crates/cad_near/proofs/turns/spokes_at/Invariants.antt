use Rattle.std.proofs.Common.{◌≡◌, ◌<◌, ℕ, Some, map, take}
use Rattle.std.specs.Prelude.{IsPermutation, slice_get}
use Rattle.std.specs.List.{Contains}
use Rattle.cad_rows.specs.declared.rows.StringRow.{StringRow}
use Rattle.cad_map.specs.Map.{strings_at}
use Rattle.cad_map.specs.Stars.{spoke_of}
use Rattle.cad_near.specs.Rays.{ray_of, ray_along}
use Rattle.cad_near.proofs.turns.spokes_at.Given as goal

-- the strings so far are seen, and once one was told they are the point's
abbrev pub invariant-loop-place : goal.invariant-loop-place
invariant-loop-place g l =
    let m = g.M.MapView.map l.map in
    let strings = g.M.MapView.view_strings l.map l.point in record {
      rays : map ray_along l.spokes.items ≡ map (ray_of m l.point) (take l.place strings);
      seen : (k : ℕ) (s : StringRow) → k < l.place → slice_get strings k ≡ Some s → Contains l.spokes.items (spoke_of m k s l.point);
      each : 0 < l.place → IsPermutation (strings_at m l.point) strings;
    }
