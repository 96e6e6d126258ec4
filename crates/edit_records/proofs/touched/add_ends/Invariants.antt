use Rattle.std.proofs.Common.{ℕ}
use Rattle.std.specs.List.{Contains}
use Rattle.cad_rings.specs.Cycle.{Side, opposite}
use Rattle.cad_map.specs.Views.{HasSide}
use Rattle.edit_records.proofs.touched.add_ends.Given as goal

-- what was there, and the ends of those of the sides so far that are wanted
abbrev pub invariant-loop-from : goal.invariant-loop-from
invariant-loop-from g l = record {
  keeps : (p : ℕ) → Contains l.fn.points.items p → Contains l.points.items p;
  ends : (s : Side) → Contains l.yielded s → HasSide (g.M.MapView.map l.map) l.other (opposite s)
      → Contains l.points.items s.0 × Contains l.points.items s.1;
}
