-- Groups of strings that are known to meet at one point alone.
use Rattle.std.specs.Prelude.{◌≡◌, ◌≢◌, ℕ, ◌+◌, ◌<◌, ◌^◌, ◌⊎◌, List, length, map, slice_index_or}
use Rattle.std.specs.List.{Contains}
use Rattle.sweep.specs.declared.extent.Extent.{Extent}
use Rattle.geo_exact.specs.Position.{Position}
use Rattle.geo_exact.specs.Orientation.{IsSameDirection}
use Rattle.cad_map.specs.Map.{Map, position_of}
use Rattle.cad_map.specs.Stars.{star, spokes_of}
use Rattle.cad_map.specs.declared.stars.Spoke.{Spoke}
use Rattle.cad_valid.specs.declared.placed.Placed.{Placed}
use Rattle.cad_valid.specs.Boxes.{box_of}

-- the group that only the row at the place is of: its number is no point's
abbrev pub alone : ℕ → ℕ
alone place = 2 ^ 32 + place

-- two positions in two directions from v, none of them at v
pub record AreTwoDirections (v a b : Position) : Type 0 where
  pub a_away : ¬ (a ≡ v)
  pub b_away : ¬ (b ≡ v)
  pub apart : ¬ IsSameDirection v a b

-- each two strings of the point lead from it into two directions
abbrev pub IsFanned : Map → ℕ → Type 0
IsFanned m p =
    (x y : Spoke) → Contains (star p (spokes_of m)) x → Contains (star p (spokes_of m)) y → x.place ≢ y.place
    → AreTwoDirections (position_of m p) x.position y.position

-- the group is the number of such a point, and the row at the place is a string of it
pub record IsHubOf (m : Map) (place group : ℕ) : Type 0 where
  pub small : group < 2 ^ 32
  pub fanned : IsFanned m group
  pub spoke : Spoke
  pub among : Contains (star group (spokes_of m)) spoke
  pub here : spoke.place ≡ place

-- each row has a group of its own, or that of a point with its strings
abbrev pub AreGroupsOf : Map → List ℕ → Type 0
AreGroupsOf m groups =
    (i : ℕ) → i < length groups
    → (slice_index_or groups i 0 ≡ alone i) ⊎ IsHubOf m i (slice_index_or groups i 0)

-- each has the group that it had, or the point's, where one of these spokes is of the string at its place
abbrev pub AreRegrouped : ℕ → List Spoke → List ℕ → List ℕ → Type 0
AreRegrouped point spokes old new =
    (i : ℕ) → (slice_index_or new i 0 ≡ slice_index_or old i 0)
    ⊎ ((slice_index_or new i 0 ≡ point) × ((x : Spoke) × Contains spokes x × (x.place ≡ i)))

-- the boxes of strings and points
abbrev pub boxes_in : List Placed → List Extent
boxes_in items = map box_of items
