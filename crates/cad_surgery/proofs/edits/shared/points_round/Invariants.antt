use Rattle.std.proofs.Common.{◌≡◌, ◌++◌, drop, map}
use Rattle.half_table.specs.Rows.{origin_of}
use Rattle.cad_surgery.proofs.edits.shared.points_round.Given as goal

-- the points so far, and those of the other halves
abbrev pub invariant-loop-place : goal.invariant-loop-place
invariant-loop-place g l = l.points ++ map (origin_of l.fn.table.rows) (drop l.place l.fn.path) ≡ map (origin_of l.fn.table.rows) l.fn.path
