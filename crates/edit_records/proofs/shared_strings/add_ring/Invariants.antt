use Rattle.std.proofs.Common.{◌≤◌, ◌+◌, filter, length}
use Rattle.std.specs.List.{Contains}
use Rattle.cad_rings.specs.Cycle.{Side, opposite}
use Rattle.cad_rows.specs.declared.rows.StringRow.{StringRow}
use Rattle.cad_map.specs.declared.span.Span.{Span}
use Rattle.cad_map.specs.Spans.{span_of}
use Rattle.cad_map.specs.Steps.{has_twin_in}
use Rattle.cad_map.specs.Views.{HasSide}
use Rattle.edit_records.specs.GridLists.{LeadsBetween}
use Rattle.edit_records.proofs.shared_strings.add_ring.Given as goal

-- what was there, and the strings of those of the sides so far that the other face has behind them
abbrev pub invariant-loop-from : goal.invariant-loop-from
invariant-loop-from g l = record {
  keeps : (s : Span) → Contains l.fn.spans.items s → Contains l.spans.items s;
  strings : (t : Side) (s : StringRow) → Contains l.yielded t → HasSide (g.M.MapView.map l.map) l.other (opposite t)
      → Contains (g.M.MapView.map l.map).strings s → LeadsBetween s t → Contains l.spans.items (span_of s);
  few : length l.spans.items ≤ length l.fn.spans.items + length (filter (has_twin_in (g.M.MapView.map l.map) l.other) l.yielded);
}
