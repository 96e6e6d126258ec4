use Rattle.std.proofs.Common.{◌≡◌, map, take}
use Rattle.cad_map.specs.Spans.{span_of}
use Rattle.edit_records.specs.HeldChains.{closed, rows_along}
use Rattle.edit_records.proofs.grid_lists.spans_along.Given as goal

-- the strings so far
abbrev pub invariant-loop-place : goal.invariant-loop-place
invariant-loop-place l = l.spans.items ≡ map span_of (rows_along (take l.place l.strings) (closed l.chain))
