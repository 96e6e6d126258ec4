use Rattle.std.proofs.Common.{◌≡◌, ◌++◌, drop, map}
use Rattle.map_parts.specs.Merging.{bare_row, rows_gone}
use Rattle.map_parts.proofs.edits.merging_tried.bare_rows.Given as goal

-- the rows so far, and those of the other strings
abbrev pub invariant-loop-place : goal.invariant-loop-place
invariant-loop-place l = l.rows.items ++ map bare_row (rows_gone (drop l.place l.fn.gone)) ≡ map bare_row (rows_gone l.fn.gone)
