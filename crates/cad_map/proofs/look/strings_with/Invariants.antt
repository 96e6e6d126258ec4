use Rattle.std.proofs.Common.{◌≡◌, ◌+◌, ◌≤◌, length, filter, drop}
use Rattle.numbered_rows.specs.Rows.{rows_in}
use Rattle.cad_map.specs.Map.{is_end as is_end_of}
use Rattle.cad_map.proofs.look.strings_with.Given as goal

abbrev pub invariant-loop-place : goal.invariant-loop-place
invariant-loop-place l =
    (l.count ≤ l.place)
    × (l.count + length (filter (λ s. is_end_of s l.fn.point) (drop l.place (rows_in l.fn.strings))) ≡ length (filter (λ s. is_end_of s l.fn.point) (rows_in l.fn.strings)))
