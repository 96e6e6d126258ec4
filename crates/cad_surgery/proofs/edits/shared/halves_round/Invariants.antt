use Rattle.std.proofs.Common.{◌≡◌, ◌++◌}
use Rattle.half_table.specs.Rows.{cycle}
use Rattle.cad_surgery.proofs.edits.shared.halves_round.Given as goal

-- the halves so far, and those that the walk still gives
abbrev pub invariant-loop-along : goal.invariant-loop-along
invariant-loop-along g l = l.path.items ++ l.along-iterator ≡ cycle l.fn.table.rows l.fn.half
