-- The sides of a plan's strings, as they are found one after another.
use Rattle.std.specs.Prelude.{◌≡◌, ◌≢◌, ◌<◌, ◌≤◌, ◌+◌, ◌*◌, ◌^◌, ◌⊎◌, ℕ, Bool, true, false, ◌&&◌, ◌||◌, ◌==◌, List, [], ◌∷◌, ◌++◌, length, map, reverse, take, slice_get, min, count_by, Option, Some, None}
use Rattle.std.specs.List.{list_any, AllByRecursion}
use Rattle.cad_rows.specs.declared.rows.StringRow.{StringRow}
use Rattle.cad_rings.specs.Cycle.{Side, is_side}
use Rattle.cad_map.specs.Boundaries.{is_face}
use Rattle.cad_map.specs.Map.{Map, is_end, far_end}
use Rattle.cad_files.specs.Follower.{LabelledSide, followers, labelled_sides}
use Rattle.cad_files.specs.Cycles.{plan_side_of}
use Rattle.cad_map.specs.declared.stars.Spoke.{Spoke}
use Rattle.cad_files.specs.declared.rows.PlanString.{PlanString}
use Rattle.cad_files.specs.declared.sides.PlanSide.{PlanSide}

abbrev pub labelled : PlanSide → LabelledSide
labelled s = record { side = plan_side_of s; string = s.string; face = s.face }

-- its point follows the side, and no other does
abbrev pub HasFollower : Map → PlanSide → Type 0
HasFollower m s = followers m (plan_side_of s) ≡ s.after ∷ []

-- of each of these the side after it stands among the sides of the strings, at the place that it tells
abbrev pub AreLinkedIn : List PlanString → List PlanSide → Type 0
AreLinkedIn strings sides =
    AllByRecursion (λ s. slice_get (map (λ l. l.side) (labelled_sides strings)) s.next
    ≡ Some (s.to, s.after)) sides

-- one of these strings leads from one end of the spoke to the other
pub record IsSpokeOf (strings : List PlanString) (spoke : Spoke) : Type 0 where
  pub string : PlanString
  pub there : slice_get strings spoke.place ≡ Some string
  pub ends : ((string.row.from ≡ spoke.at) × (string.row.to ≡ spoke.far))
      ⊎ ((string.row.from ≡ spoke.far) × (string.row.to ≡ spoke.at))

-- after these sides of the strings comes one to this point that hasn't just one follower
pub record IsStop (m : Map) (strings : List PlanString) (passed : List PlanSide) (end : ℕ) : Type 0 where
  pub side : LabelledSide
  pub rest : List LabelledSide
  pub are : map labelled passed ++ side ∷ rest ≡ labelled_sides strings
  pub ends : side.side.1 ≡ end
  pub bad : (length (followers m side.side) == 1) ≡ false

-- ---- Sides that are met again

-- these sides, the last one first
abbrev pub passed_sides : List PlanSide → List Side
passed_sides sides = reverse (map plan_side_of sides)

-- the side is among these, or one of them to the same point has its follower
abbrev pub is_met : List PlanSide → PlanSide → Bool
is_met sides s =
    list_any (λ f. is_side (plan_side_of s) (plan_side_of f)
    || ((f.to == s.to) && (f.after == s.after))) sides

-- none of the first n sides is met among those before it
abbrev pub NoneMet : List PlanSide → ℕ → Type 0
NoneMet sides n =
    (k : ℕ) (s : PlanSide) → k < n → slice_get sides k ≡ Some s → is_met (take k sides) s ≡ false

-- the side at this place is the first that is met among those before it
pub record IsFirstMet (sides : List PlanSide) (k : ℕ) : Type 0 where
  pub side : PlanSide
  pub there : slice_get sides k ≡ Some side
  pub met : is_met (take k sides) side ≡ true
  pub before : NoneMet sides k

-- two numbers as one
abbrev pub key_of : Side → ℕ
key_of s = s.0 * 2 ^ 32 + s.1

-- two points of a side: where it leads from and to, or where it ends and what follows
abbrev pub two_points_of : Bool → PlanSide → Side
two_points_of false s = (s.from, s.to)
two_points_of true s = (s.to, s.after)

-- the lesser of two places, where they are there
abbrev pub lesser_of : Option ℕ → Option ℕ → Option ℕ
lesser_of None b = b
lesser_of (Some p) None = Some p
lesser_of (Some p) (Some q) = Some (min p q)

-- ---- Strings between the same points

-- the string leads from one of these points to the other, whichever of them it has first
abbrev pub leads : ℕ → ℕ → StringRow → Bool
leads p q t = is_end t p && (far_end t p == q)

-- its ends are two points, and at most one of these strings leads from one to the other
pub record LeadsAlone (strings : List StringRow) (s : StringRow) : Type 0 where
  pub two : s.from ≢ s.to
  pub alone : (count_by (leads s.from s.to) strings ≤ 1)
      ⊎ (count_by (leads s.to s.from) strings ≤ 1)

-- ---- Faces

-- one of these is the side after it, and has its face
abbrev pub keeps_face_among : List PlanSide → PlanSide → Bool
keeps_face_among sides s =
    list_any (λ t. is_side (s.to, s.after) (plan_side_of t) && is_face s.face t.face) sides
