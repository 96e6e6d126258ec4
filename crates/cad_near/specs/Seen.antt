-- What an edit touched as it lies on the map, and what of V3 and V4 is seen of it.
use Rattle.std.specs.Prelude.{◌≡◌, Bool, true, not, ◌&&◌, ◌||◌, ◌==◌, ◌≤ℤ◌}
use Rattle.std.specs.Prelude.{if◌then◌else◌, IsTrue}
use Rattle.std.specs.List.{AllByRecursion, Contains, list_all, list_any}
use Rattle.geo_exact.specs.Position.{Position}
use Rattle.geo_exact.specs.SignTest.{boxes_overlap}
use Rattle.cad_rows.specs.declared.rows.PointRow.{PointRow}
use Rattle.cad_rows.specs.declared.rows.StringRow.{StringRow}
use Rattle.cell_grid.specs.declared.entry.HeldString.{HeldString}
use Rattle.cell_grid.specs.declared.entry.HeldPoint.{HeldPoint}
use Rattle.cad_map.specs.Map.{Map, position_of}
use Rattle.cad_map.specs.Touched.{Touched}
use Rattle.cad_map.specs.Valid.{is_same_position}
use Rattle.cad_near.specs.declared.seen.Lying.{Lying}
use Rattle.cad_near.specs.declared.seen.Seen.{Seen}
use Rattle.cad_near.specs.declared.seen.Reach.{Reach}
use Rattle.cad_near.specs.Near.{OfPoint, OfString}
use Rattle.cad_valid.specs.Placed.{have_common}

-- a string of the map, between the positions of its ends
abbrev pub lying_string : Map → StringRow → Lying
lying_string m s =
    record { number = s.number; a = position_of m s.from; b = position_of m s.to }

-- a point, as a string from where it lies to there
abbrev pub lying_point : PointRow → Lying
lying_point p = record { number = p.number; a = p.position; b = p.position }

-- ---- What was gathered

-- the position lies in the box
pub record IsInReach (r : Reach) (p : Position) : Type 0 where
  pub left : r.low.x ≤ℤ p.x
  pub right : p.x ≤ℤ r.high.x
  pub bottom : r.low.y ≤ℤ p.y
  pub top : p.y ≤ℤ r.high.y

-- both ends lie in the box
pub record HasInReach (r : Reach) (f : Lying) : Type 0 where
  pub a : IsInReach r f.a
  pub b : IsInReach r f.b

-- all touched strings and points that the map has were gathered, and lie in the box
pub record IsSeen (m : Map) (t : Touched) (v : Seen) : Type 0 where
  pub strings : AllByRecursion (OfString m (λ s. Contains v.strings.items (lying_string m s)))
      t.strings
  pub points : AllByRecursion (OfPoint m (λ p. Contains v.points.items (lying_point p))) t.points
  pub strings_in : AllByRecursion (HasInReach v.reach) v.strings.items
  pub points_in : AllByRecursion (HasInReach v.reach) v.points.items

-- ---- What is seen

-- neither of the segments from v to a and from v to b has the other's far end
abbrev pub starts_alone : Position → Position → Position → Bool
starts_alone v a b = not (have_common v a b b) && not (have_common v b a a)

-- the segments ab and cd are seen to have no common location but a shared end
abbrev pub meets_by_sight : Position → Position → Position → Position → Bool
meets_by_sight a b c d =
    if not (boxes_overlap a b c d) then true
    else (if is_same_position a c then starts_alone a b d
    else (if is_same_position a d then starts_alone a b c
    else (if is_same_position b c then starts_alone b a d
    else (if is_same_position b d then starts_alone b a c
    else not (have_common a b c d)))))

-- a position is seen to lie on a segment only as its end
abbrev pub lies_by_sight : Position → Position → Position → Bool
lies_by_sight p a b = (is_same_position p a || is_same_position p b) || not (have_common a b p p)

-- of two strings one is the other, or they are seen to meet only at a shared end
abbrev pub is_clear_of : Lying → Lying → Bool
is_clear_of f g = (f.number == g.number) || meets_by_sight f.a f.b g.a g.b

-- two strings lie between the same positions
abbrev pub lies_alike : Lying → Lying → Bool
lies_alike f g = is_same_position f.a g.a && is_same_position f.b g.b

-- of two strings one is the other, where it lies
abbrev pub is_itself : Lying → Lying → Bool
is_itself f g = (f.number == g.number) && lies_alike f g

-- of two strings one is the other where it lies, or they are seen to meet only at a shared end
abbrev pub is_met_by_sight : Lying → Lying → Bool
is_met_by_sight f g = is_itself f g || meets_by_sight f.a f.b g.a g.b

-- a string is seen to be clear of all strings and points that were gathered
abbrev pub is_clear_string : Seen → Lying → Bool
is_clear_string v f =
    list_all (λ s. is_clear_of s f) v.strings.items
    && list_all (λ p. lies_by_sight p.a f.a f.b) v.points.items

-- a string ends at a position
abbrev pub ends_at : Lying → Position → Bool
ends_at s p = is_same_position p s.a || is_same_position p s.b

-- each point that was gathered lies where a string that was gathered ends
abbrev pub are_at_ends : Seen → Bool
are_at_ends v = list_all (λ p. list_any (λ s. ends_at s p.a) v.strings.items) v.points.items

-- a point is seen to be clear of all strings that were gathered
abbrev pub is_clear_point : Seen → Lying → Bool
is_clear_point v f = list_all (λ s. lies_by_sight f.a s.a s.b) v.strings.items

-- of two points one is the other, or they are seen to lie apart
abbrev pub is_apart_from : Lying → Lying → Bool
is_apart_from f g = (f.number == g.number) || not (is_same_position f.a g.a)

-- a point is seen to be apart from all points that were gathered
abbrev pub is_apart_point : Seen → Lying → Bool
is_apart_point v f = list_all (λ p. is_apart_from p f) v.points.items

-- a point is seen to be clear of all strings and points that were gathered
abbrev pub is_lone_point : Seen → Lying → Bool
is_lone_point v f = is_clear_point v f && is_apart_point v f

-- ---- What the grid holds

-- a held string, and a held point, where it is held
abbrev pub held_string : HeldString → Lying
held_string h = record { number = h.string; a = h.from; b = h.to }

abbrev pub held_point : HeldPoint → Lying
held_point h = record { number = h.point; a = h.position; b = h.position }

-- the map has the string where it is held, and the point
abbrev pub HasStringThere : Map → HeldString → Type 0
HasStringThere m h = (s : StringRow) × Contains m.strings s × (lying_string m s ≡ held_string h)

abbrev pub HasPointThere : Map → HeldPoint → Type 0
HasPointThere m h = (p : PointRow) × Contains m.points p × (lying_point p ≡ held_point h)

-- a held string passes a test, if it is where the map has it; and so does a held point
unfoldable pub OfHeldString : Map → (Lying → Bool) → HeldString → Type 0
OfHeldString m test h = (s : StringRow) → Contains m.strings s
    → lying_string m s ≡ held_string h → IsTrue (test (held_string h))

unfoldable pub OfHeldPoint : Map → (Lying → Bool) → HeldPoint → Type 0
OfHeldPoint m test h = (p : PointRow) → Contains m.points p → lying_point p ≡ held_point h
    → IsTrue (test (held_point h))

-- all strings of the map in reach are seen to pass a test, and all points
abbrev pub SeesStrings : Map → Seen → (Lying → Bool) → Type 0
SeesStrings m v test = (s : StringRow) → Contains m.strings s
    → IsTrue (boxes_overlap v.reach.low v.reach.high (position_of m s.from) (position_of m s.to))
    → IsTrue (test (lying_string m s))

abbrev pub SeesPoints : Map → Seen → (Lying → Bool) → Type 0
SeesPoints m v test = (p : PointRow) → Contains m.points p
    → IsTrue (boxes_overlap v.reach.low v.reach.high p.position p.position)
    → IsTrue (test (lying_point p))

-- what was touched was gathered, and all points near it are seen to be clear of it
pub record IsSeenAlone (m : Map) (t : Touched) (v : Seen) : Type 0 where
  pub seen : IsSeen m t v
  pub points : SeesPoints m v (is_lone_point v)
