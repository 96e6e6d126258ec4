-- The followers of a side, as they are looked for among the strings at its end.
use Rattle.std.specs.Prelude.{◌≡◌, ◌≢◌, ℕ, Bool, true, false, not, ◌&&◌, ◌||◌, ◌==◌, List, Option, Some, None}
use Rattle.std.specs.List.{list_all, AllByRecursion, Contains}
use Rattle.geo_exact.specs.Sector.{in_sector}
use Rattle.cad_map.specs.Map.{Map, position_of}
use Rattle.cad_map.specs.Stars.{star, spokes_of}
use Rattle.key_lists.specs.Held.{Held, items_at}
use Rattle.cad_files.specs.declared.followers.Arrival.{Arrival}
use Rattle.cad_map.specs.declared.stars.Spoke.{Spoke}

-- the spokes that stars have at each point are the map's
abbrev pub AreStarsOf : Map → Held Spoke → Type 0
AreStarsOf m stars = (p : ℕ) → items_at stars p ≡ star p (spokes_of m)

-- the spoke tells where its far end lies
abbrev pub IsPlacedSpoke : Map → Spoke → Type 0
IsPlacedSpoke m w = w.position ≡ position_of m w.far

-- a side from one point to another, at its end
abbrev pub arrival_of : Map → ℕ → ℕ → Arrival
arrival_of m from at = record { from = from; back = position_of m from; at = position_of m at }

-- e leads where w does, or isn't in the sector from w to where the side comes from
abbrev pub leaves_open : Arrival → Spoke → Spoke → Bool
leaves_open a w e = (e.far == w.far) || not (in_sector a.at w.position a.back e.position)

-- w leads to a point that may follow, where these are the spokes at the side's end
abbrev pub may_follow_there : Arrival → List Spoke → Spoke → Bool
may_follow_there a ends w = not (w.far == a.from) && list_all (leaves_open a w) ends

-- e leads where w does or where the side comes from, or w is in the sector from e to there
abbrev pub is_barred : Arrival → Spoke → Spoke → Bool
is_barred a w e =
    (e.far == w.far) || ((e.far == a.from) || in_sector a.at e.position a.back w.position)

-- w leads to another point than e
abbrev pub is_other : Option Spoke → Spoke → Bool
is_other None e = false
is_other (Some w) e = not (w.far == e.far)

-- of the spokes at the end w may follow, and each of some that may leads to the same point
pub record IsOnly (a : Arrival) (ends some : List Spoke) (w : Spoke) : Type 0 where
  pub among : Contains ends w
  pub follows : may_follow_there a ends w ≡ true
  pub only : AllByRecursion (λ e. may_follow_there a ends e ≡ true → e.far ≡ w.far) some

-- of the spokes at the end none of some may follow
abbrev pub HasNone : Arrival → List Spoke → List Spoke → Type 0
HasNone a ends some = AllByRecursion (λ e. may_follow_there a ends e ≡ false) some

-- two of the spokes may follow, and lead to different points
pub record HasTwo (a : Arrival) (ends : List Spoke) : Type 0 where
  pub first : Spoke
  pub second : Spoke
  pub first_among : Contains ends first
  pub second_among : Contains ends second
  pub first_follows : may_follow_there a ends first ≡ true
  pub second_follows : may_follow_there a ends second ≡ true
  pub apart : first.far ≢ second.far
