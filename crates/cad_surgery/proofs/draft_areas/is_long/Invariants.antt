use Rattle.std.proofs.Common.{◌≡◌, true}
use Rattle.half_table.specs.Rows.{has}
use Rattle.cad_surgery.proofs.draft_areas.is_long.Given as goal

-- the half is in the table
abbrev pub invariant-loop : goal.invariant-loop
invariant-loop g l = has l.fn.table.rows l.half ≡ true
