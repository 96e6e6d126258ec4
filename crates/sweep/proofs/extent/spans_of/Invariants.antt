use Rattle.std.proofs.Common.{◌<◌, ℕ, length, slice_index_or}
use Rattle.std.specs.List.{Contains}
use Rattle.sweep.specs.declared.extent.Extent.{Extent}
use Rattle.sweep.specs.Spans.{HavePlacesBelow}
use Rattle.sweep.specs.Extents.{IsRowOf, span_in}
use Rattle.sweep.proofs.extent.spans_of.Given as goal

-- the boxes before this one have their spans, and no others are put
abbrev pub invariant-loop-place : goal.invariant-loop-place
invariant-loop-place l =
    ((i : ℕ) (d : Extent) (row : ℕ) → i < l.place → IsRowOf (slice_index_or l.extents i d) l.height row
    → Contains l.spans.items (span_in (slice_index_or l.extents i d) i row))
    × HavePlacesBelow l.spans.items (length l.extents)
