use Rattle.std.proofs.Common.{◌<◌, take}
use Rattle.std.specs.Prelude.{IsPermutation}
use Rattle.std.specs.List.{Contains}
use Rattle.cad_rows.specs.declared.rows.StringRow.{StringRow}
use Rattle.cad_rings.specs.Cycle.{Side, sides_of}
use Rattle.cad_map.specs.declared.boundary.Boundary.{Boundary}
use Rattle.cad_map.specs.Map.{strings_at, far_end}
use Rattle.edit_records.proofs.touched.faces_at.Given as goal

-- the faces of the strings so far; and once a string was told, they are the point's
abbrev pub invariant-loop-place : goal.invariant-loop-place
invariant-loop-place g l = record {
  faces : (s : StringRow) → Contains (take l.place (g.M.MapView.view_strings l.map l.point)) s → (b : Boundary)
      → Contains (g.M.MapView.map l.map).boundaries b → Contains {X = Side} (sides_of b.ring) (far_end s l.point, l.point) → Contains l.faces.items b.face;
  each : 0 < l.place → IsPermutation (strings_at (g.M.MapView.map l.map) l.point) (g.M.MapView.view_strings l.map l.point);
}
