use Rattle.std.proofs.Common.{◌≡◌, ◌++◌, map}
use Rattle.half_table.specs.Rows.{origin_of, cycle}
use Rattle.half_paths.specs.Path.{AreIn}
use Rattle.cad_surgery.proofs.edits.crossing.ring_of.Given as goal

-- the points so far, and those of the halves ahead, which are in the table
abbrev pub invariant-loop-each : goal.invariant-loop-each
invariant-loop-each g l = record {
  points : l.points.items ++ map (origin_of l.fn.draft.table.rows) l.each-iterator ≡ map (origin_of l.fn.draft.table.rows) (cycle l.fn.draft.table.rows l.fn.half);
  ahead : AreIn l.fn.draft.table.rows l.each-iterator;
}
