use Rattle.std.proofs.Common.{◌≡◌, map}
use Rattle.map_tables.specs.Tables.{with_rows}
use Rattle.map_tables.proofs.reading.add_all.Given as goal

abbrev pub invariant-loop-item : goal.invariant-loop-item
invariant-loop-item g l = l.rows ≡ with_rows l.fn.rows (map g.T.PlanItem.row_of l.yielded)
