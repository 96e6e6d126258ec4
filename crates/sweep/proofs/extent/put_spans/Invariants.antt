use Rattle.std.proofs.Common.{◌<◌, ◌≤◌, ◌+◌, ◌-◌, ◌/◌, ℕ}
use Rattle.std.specs.List.{Contains}
use Rattle.sweep.specs.declared.span.Span.{Span}
use Rattle.sweep.specs.Spans.{HavePlacesBelow}
use Rattle.sweep.specs.Extents.{span_in}
use Rattle.sweep.proofs.extent.put_spans.Given as goal

-- the rows before this one have their spans, and no others are put
abbrev pub invariant-loop-row : goal.invariant-loop-row
invariant-loop-row l =
    ((s : Span) → Contains l.fn.spans.items s → Contains l.spans.items s)
    × ((r : ℕ) → l.extent.bottom / l.height ≤ r → r < l.row
    → Contains l.spans.items (span_in l.extent l.place r))
    × ((n : ℕ) → l.place < n → HavePlacesBelow l.fn.spans.items n → HavePlacesBelow l.spans.items n)

abbrev pub decreases-loop-row : goal.decreases-loop-row
decreases-loop-row l = l.last + 1 - l.row
