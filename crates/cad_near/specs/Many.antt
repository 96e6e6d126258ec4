-- What lies near very many touched strings and points, and groups of strings that meet at one point alone.
use Rattle.std.specs.Prelude.{◌≡◌, ◌≢◌, ℕ, ◌<◌, ◌^◌, ◌⊎◌, Bool, not, ◌&&◌, List, ◌++◌, map, length, slice_get, slice_index_or, Some, IsTrue, IsPermutation}
use Rattle.std.specs.List.{AllByRecursion, Contains}
use Rattle.geo_exact.specs.SignTest.{boxes_overlap}
use Rattle.sweep.specs.Parts.{AllOfTwoGroupsPass}
use Rattle.cad_rows.specs.declared.rows.PointRow.{PointRow}
use Rattle.cad_rows.specs.declared.rows.StringRow.{StringRow}
use Rattle.cad_map.specs.Map.{Map, position_of, is_end, far_end, strings_at}
use Rattle.cad_map.specs.Stars.{spoke_of}
use Rattle.cad_map.specs.Touched.{Touched}
use Rattle.cad_map.specs.declared.stars.Spoke.{Spoke}
use Rattle.cad_valid.specs.declared.placed.Placed.{Placed}
use Rattle.cad_near.specs.declared.seen.Reach.{Reach}
use Rattle.cad_valid.specs.Hubs.{alone, boxes_in, AreTwoDirections}
use Rattle.cad_near.specs.Near.{OfPoint, OfString}
use Rattle.cad_valid.specs.Placed.{placed_string, placed_point, is_placed_end}
use Rattle.cad_near.specs.Seen.{HasInReach, lying_string, lying_point}
use Rattle.cad_valid.specs.Swept.{passes_at, is_point, have_no_crossing}

-- ---- What lies near

-- the box has all touched strings and points that the map has
pub record HasTouchedIn (m : Map) (t : Touched) (r : Reach) : Type 0 where
  pub strings : AllByRecursion (OfString m (λ s. HasInReach r (lying_string m s))) t.strings
  pub points : AllByRecursion (OfPoint m (λ p. HasInReach r (lying_point p))) t.points

-- those of these strings that the map has stand there, each at a place of its own: it goes with the number
pub record AreNamed (m : Map) (numbers : List ℕ) (items : List Placed) : Type 0 where
  pub named : List (ℕ × Placed)
  pub are : items ≡ map (λ e. e.1) named
  pub all : AllByRecursion (OfString m (λ s. Contains named (s.number, placed_string m s))) numbers

-- these are strings, each at a place of its own, and points: all of the map whose boxes overlap the box
pub record HasAllIn (m : Map) (r : Reach) (items : List Placed) : Type 0 where
  pub named : List (ℕ × Placed)
  pub rest : List Placed
  pub are : items ≡ map (λ e. e.1) named ++ rest
  pub strings : (s : StringRow) → Contains m.strings s
      → IsTrue (boxes_overlap r.low r.high (position_of m s.from) (position_of m s.to))
      → Contains named (s.number, placed_string m s)
  pub points : (p : PointRow) → Contains m.points p
      → IsTrue (boxes_overlap r.low r.high p.position p.position)
      → Contains rest (placed_point p)

-- these have all in some box round what was touched
pub record AreAllNear (m : Map) (t : Touched) (items : List Placed) : Type 0 where
  pub reach : Reach
  pub touched : HasTouchedIn m t reach
  pub near : HasAllIn m reach items

-- ---- Groups

-- each two strings of the point lead from it into two directions
abbrev pub LeadApart : Map → ℕ → Type 0
LeadApart m p =
    (s t : StringRow) → Contains m.strings s → Contains m.strings t
    → IsTrue (is_end s p) → IsTrue (is_end t p) → s.number ≢ t.number
    → AreTwoDirections (position_of m p) (position_of m (far_end s p)) (position_of m (far_end t p))

-- these have the point's strings as it sees them, each by its place in some order
pub record HasSpokesOf (m : Map) (p : ℕ) (spokes : List Spoke) : Type 0 where
  pub strings : List StringRow
  pub each : IsPermutation (strings_at m p) strings
  pub seen : (place : ℕ) (s : StringRow) → slice_get strings place ≡ Some s
      → Contains spokes (spoke_of m place s p)

-- a string that ends at the point, and no point
abbrev pub is_string_of : Placed → ℕ → Bool
is_string_of f p = is_placed_end f p && not (is_point f)

-- the group is the number of a point whose strings lead apart, and this is one of them
pub record IsOfPoint (m : Map) (f : Placed) (group : ℕ) : Type 0 where
  pub small : group < 2 ^ 32
  pub apart : LeadApart m group
  pub string : IsTrue (is_string_of f group)

-- each of these has a group of its own, or that of a point whose strings lead apart
abbrev pub AreGroupsIn : Map → List Placed → List ℕ → Type 0
AreGroupsIn m items groups =
    (i : ℕ) (f : Placed) → slice_get items i ≡ Some f
    → (slice_index_or groups i 0 ≡ alone i) ⊎ IsOfPoint m f (slice_index_or groups i 0)

-- each has the group that it had, or the point's, where it is a string of it
abbrev pub AreRegroupedIn : ℕ → List Placed → List ℕ → List ℕ → Type 0
AreRegroupedIn p items old new =
    (i : ℕ) (f : Placed) → slice_get items i ≡ Some f
    → (slice_index_or new i 0 ≡ slice_index_or old i 0)
    ⊎ ((slice_index_or new i 0 ≡ p) × IsTrue (is_string_of f p))

-- each two that overlap pass the test of V4, but for those of one group
pub record PassInGroups (m : Map) (items : List Placed) : Type 0 where
  pub groups : List ℕ
  pub count : length groups ≡ length items
  pub are : AreGroupsIn m items groups
  pub pass : AllOfTwoGroupsPass (passes_at have_no_crossing items) (boxes_in items) groups
