-- Boxes in the plane, and the spans that stand for them on a line: one for each row that a box
-- reaches.
use Rattle.std.specs.Prelude.{◌≡◌, ◌≢◌, ℕ, ◌≤◌, ◌<◌, ◌+◌, ◌-◌, ◌*◌, ◌/◌, Bool, false, max, List, length, slice_index_or, sum_by}
use Rattle.std.specs.List.{Contains}
use Rattle.sweep.specs.declared.span.Span.{Span}
use Rattle.sweep.specs.declared.extent.Extent.{Extent}
use Rattle.sweep.specs.Spans.{PassEitherWay}

-- what a row takes up on the line, more than any coordinate
abbrev pub row_width : ℕ
row_width = 34359738368

-- a box with its borders in order, of coordinates in range
pub record IsExtent (e : Extent) : Type 0 where
  pub across : e.left ≤ e.right
  pub up : e.bottom ≤ e.top
  pub right : e.right < row_width
  pub top : e.top < row_width

-- each of these is a box
pub record HasExtents (extents : List Extent) : Type 0 where
  pub each : (e : Extent) → Contains extents e → IsExtent e

-- the two have a location in common
pub record Overlap (a b : Extent) : Type 0 where
  pub a_left : a.left ≤ b.right
  pub b_left : b.left ≤ a.right
  pub a_bottom : a.bottom ≤ b.top
  pub b_bottom : b.bottom ≤ a.top

-- each two of these boxes that overlap pass the test, in one of the two orders
abbrev pub AllThatOverlapPass : (ℕ → ℕ → Bool) → List Extent → Type 0
AllThatOverlapPass test extents =
    (i j : ℕ) (d : Extent) → i < length extents → j < length extents → i ≢ j
    → Overlap (slice_index_or extents i d) (slice_index_or extents j d) → PassEitherWay test i j

-- two different places of so many don't pass the test
abbrev pub SomePairFails : (ℕ → ℕ → Bool) → ℕ → Type 0
SomePairFails test n =
    (i : ℕ) × (j : ℕ) × (i ≢ j) × (test i j ≡ false) × (i < n) × (j < n)

-- how far a box reaches upwards
abbrev pub height_of : Extent → ℕ
height_of e = e.top - e.bottom

-- the mean height of these boxes, or 64 where that is less
unfoldable pub height_of_rows : List Extent → ℕ
height_of_rows extents = max 64 (sum_by height_of extents / length extents)

-- the box reaches the row
pub record IsRowOf (e : Extent) (height row : ℕ) : Type 0 where
  pub first : e.bottom / height ≤ row
  pub last : row ≤ e.top / height

-- what stands for a box in a row
abbrev pub span_in : Extent → ℕ → ℕ → Span
span_in e place row =
    record { low = row * row_width + e.left; high = row * row_width + e.right; place = place }

-- these have a span for each row that each box reaches
abbrev pub HasAllSpans : List Span → List Extent → ℕ → Type 0
HasAllSpans spans extents height =
    (i : ℕ) (d : Extent) (row : ℕ) → i < length extents
    → IsRowOf (slice_index_or extents i d) height row
    → Contains spans (span_in (slice_index_or extents i d) i row)
