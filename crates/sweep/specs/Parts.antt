-- Boxes of groups, and what is to hold of two that overlap and are of two groups.
use Rattle.std.specs.Prelude.{◌≡◌, ◌≢◌, ℕ, ◌<◌, ◌≤◌, ◌⊎◌, Bool, false, ◌&&◌, nat_le, max, if◌then◌else◌, List, length, slice_index_or}
use Rattle.std.specs.List.{Contains}
use Rattle.sweep.specs.declared.extent.Extent.{Extent}
use Rattle.sweep.specs.declared.part.Part.{Part}
use Rattle.sweep.specs.declared.part.Halves.{Halves}
use Rattle.sweep.specs.Spans.{PassEitherWay}
use Rattle.sweep.specs.Extents.{Overlap}

-- whether two boxes have a location in common
abbrev pub overlap : Extent → Extent → Bool
overlap a b =
    nat_le a.left b.right && (nat_le b.left a.right && (nat_le a.bottom b.top && nat_le b.bottom a.top))

-- where a box begins, upwards or across
abbrev pub begin_of : Bool → Part → ℕ
begin_of upwards p = if upwards then p.extent.bottom else p.extent.left

-- where it ends, which is never before it begins
abbrev pub end_of : Bool → Part → ℕ
end_of upwards p =
    if upwards then max p.extent.bottom p.extent.top else max p.extent.left p.extent.right

-- boxes at two places, of two groups, that overlap pass the test in one of the two orders
abbrev pub PassBetween : (ℕ → ℕ → Bool) → Part → Part → Type 0
PassBetween test a b =
    a.place ≢ b.place → a.group ≢ b.group → Overlap a.extent b.extent → PassEitherWay test a.place b.place

-- each two of these do
abbrev pub AllBetweenPass : (ℕ → ℕ → Bool) → List Part → Type 0
AllBetweenPass test parts = (a b : Part) → Contains parts a → Contains parts b → PassBetween test a b

-- one of these doesn't pass the test with a box at another place
abbrev pub HasFailedBeside : (ℕ → ℕ → Bool) → List Part → Part → Type 0
HasFailedBeside test parts first =
    (p : Part) × Contains parts p × (first.place ≢ p.place) × (test first.place p.place ≡ false)

-- two of these at two places don't pass the test
abbrev pub HasFailedPart : (ℕ → ℕ → Bool) → List Part → Type 0
HasFailedPart test parts = (first : Part) × Contains parts first × HasFailedBeside test parts first

-- those from one place on and before another are of one group
abbrev pub AreAlike : List Part → ℕ → ℕ → Type 0
AreAlike parts from to =
    (j k : ℕ) (d : Part) → from ≤ j → j < to → from ≤ k → k < to
    → (slice_index_or parts j d).group ≡ (slice_index_or parts k d).group

-- the halves have no other boxes, and two of these that overlap stand in one of the halves together
pub record AreHalves (parts : List Part) (halves : Halves) : Type 0 where
  pub lower_in : (a : Part) → Contains halves.lower.items a → Contains parts a
  pub upper_in : (a : Part) → Contains halves.upper.items a → Contains parts a
  pub together : (a b : Part) → Contains parts a → Contains parts b → Overlap a.extent b.extent
      → (Contains halves.lower.items a × Contains halves.lower.items b)
      ⊎ (Contains halves.upper.items a × Contains halves.upper.items b)

-- each box stands among these with its group and its place
abbrev pub ArePartsOf : List Extent → List ℕ → List Part → Type 0
ArePartsOf extents groups parts =
    (i : ℕ) (d : Extent) → i < length extents
    → Contains parts (record { extent = slice_index_or extents i d; group = slice_index_or groups i 0; place = i })

-- they are at places before this one
abbrev pub HavePartsBelow : List Part → ℕ → Type 0
HavePartsBelow parts n = (p : Part) → Contains parts p → p.place < n

-- each two of these boxes that are of two groups and overlap pass the test, in one of the two orders
abbrev pub AllOfTwoGroupsPass : (ℕ → ℕ → Bool) → List Extent → List ℕ → Type 0
AllOfTwoGroupsPass test extents groups =
    (i j : ℕ) (d : Extent) → i < length extents → j < length extents
    → slice_index_or groups i 0 ≢ slice_index_or groups j 0
    → Overlap (slice_index_or extents i d) (slice_index_or extents j d) → PassEitherWay test i j
