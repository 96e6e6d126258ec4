use Rattle.std.proofs.Common.{◌≤◌, filter, length, take}
use Rattle.std.specs.Prelude.{flat_map}
use Rattle.std.specs.List.{Contains}
use Rattle.cad_rings.specs.Cycle.{Side, opposite, sides_of}
use Rattle.cad_rows.specs.declared.rows.StringRow.{StringRow}
use Rattle.cad_map.specs.Map.{rings_at}
use Rattle.cad_map.specs.Spans.{span_of}
use Rattle.cad_map.specs.Steps.{has_twin_in}
use Rattle.cad_map.specs.Views.{HasSide}
use Rattle.edit_records.specs.GridLists.{LeadsBetween}
use Rattle.edit_records.proofs.shared_strings.shared_spans.Given as goal

-- the shared strings of the rings so far
abbrev pub invariant-loop-place : goal.invariant-loop-place
invariant-loop-place g l = record {
  strings : (t : Side) (s : StringRow) → Contains (flat_map sides_of (take l.place (rings_at l.face (g.M.MapView.rings l.map)))) t
      → HasSide (g.M.MapView.map l.map) l.other (opposite t) → Contains (g.M.MapView.map l.map).strings s → LeadsBetween s t
      → Contains l.spans.items (span_of s);
  few : length l.spans.items
      ≤ length (filter (has_twin_in (g.M.MapView.map l.map) l.other) (flat_map sides_of (take l.place (rings_at l.face (g.M.MapView.rings l.map)))));
}
