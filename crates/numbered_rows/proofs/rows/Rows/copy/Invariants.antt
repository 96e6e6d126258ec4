use Rattle.std.proofs.Common.{◌≡◌, take}
use Rattle.numbered_rows.specs.Rows.{rows_in}
use Rattle.numbered_rows.proofs.rows.Rows.copy.Given as goal

-- the rows up to the place are copied
abbrev pub invariant-loop-place : goal.invariant-loop-place
invariant-loop-place g l = rows_in l.copied ≡ take l.place (rows_in l.self)
