use Rattle.std.proofs.Common.{◌≡◌, filter, drop}
use Rattle.std.specs.Prelude.{slice_get}
use Rattle.numbered_rows.specs.Rows.{rows_in}
use Rattle.cad_map.specs.Map.{is_end as is_end_of}
use Rattle.cad_map.proofs.look.string_with.Given as goal

-- the string is so many of the point's strings further on
abbrev pub invariant-loop-at : goal.invariant-loop-at
invariant-loop-at l =
    slice_get (filter (λ s. is_end_of s l.fn.point) (drop l.at (rows_in l.fn.strings))) l.left
    ≡ slice_get (filter (λ s. is_end_of s l.fn.point) (rows_in l.fn.strings)) l.fn.place
