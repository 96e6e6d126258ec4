-- A walk along a ring, side by side, by whatever tells what point follows a side.
use Rattle.std.specs.Prelude.{◌≡◌, ◌≤◌, ℕ, zero, suc, ◌-◌, List, [], ◌∷◌, ◌++◌, length, slice_get, Option, Some, None, MatchOption, IfSome, if◌then◌else◌}
use Rattle.std.specs.Iterator.{YieldsFirst}
use Rattle.cad_rings.specs.Cycle.{Ring, Side, is_side, sides_of}
use Rattle.cad_map.specs.Map.{Map}
use Rattle.cad_map.specs.Views.{IsNoSide, ComesAfter}
use Rattle.cad_map.specs.declared.walk.Walk.{Walk}

-- the first side of a ring
abbrev pub first_side : Ring → Option Side
first_side ring = first_of (sides_of ring)
  where
    first_of : List Side → Option Side
    first_of [] = None
    first_of (s ∷ sides) = Some s

-- the side from the end of s to w, unless it is the one that the walk began with
abbrev pub side_after : Side → Side → Option ℕ → Option Side
side_after first s None = None
side_after first s (Some w) = if is_side first (s.1, w) then None else Some (s.1, w)

-- the sides from this one on, until the walk is back at the first: at most so many
abbrev pub walk : (Side → Option ℕ) → Side → ℕ → Option Side → List Side
walk follower first zero at = []
walk follower first (suc most) None = []
walk follower first (suc most) (Some s) = s ∷ walk follower first most (side_after first s (follower s))

-- ---- A walk under way

-- the map, what is told of its sides, the side that the walk began with, how many more it may give, and the next one
pub record Walking : Type 0 where
  pub map : Map
  pub follower : Side → Option ℕ
  pub first : Side
  pub most : ℕ
  pub at : Option Side

-- how a walk stands
abbrev pub walking : {M : Type 0} → (M → Map) → (M → Side → Option ℕ) → Walk M → Walking
walking map_of told w = record { map = map_of w.map.now; follower = told w.map.now; first = w.first; most = w.most; at = w.at }

-- the sides that are left to give
abbrev pub sides_ahead : Walking → List Side
sides_ahead w = walk w.follower w.first w.most w.at

-- what is told of a side is so in the map
abbrev pub IsTold : Map → (Side → Option ℕ) → Side → Type 0
IsTold m follower s = MatchOption (follower s) (IsNoSide m s) (ComesAfter m s)

-- the walk gave the side that it was at, and went on to the one after it
pub record GoesOn (before : Walking) (s : Side) (after : Walking) : Type 0 where
  pub here : before.at ≡ Some s
  pub told : IsTold before.map before.follower s
  pub is : after ≡ record before { most = before.most - 1; at = side_after before.first s (before.follower s) }

-- the walk has given these sides of the ring, and goes on with the others
pub record IsOnRing (m : Map) (ring : Ring) (given : List Side) (w : Walking) : Type 0 where
  pub rest : List Side
  pub sides : given ++ rest ≡ sides_of ring
  pub here : w.at ≡ slice_get rest 0
  pub first : first_side ring ≡ Some w.first
  pub around : w.map ≡ m
  pub room : length rest ≤ w.most

-- one call for the next side
pub record GivesNext (before : Walking) (given : Option Side) (after : Walking) : Type 0 where
  pub first : YieldsFirst sides_ahead before given after
  pub goes_on : IfSome given (λ s. GoesOn before s after)
