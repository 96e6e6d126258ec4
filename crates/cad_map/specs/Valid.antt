-- What makes a map valid, rule by rule.
use Rattle.std.specs.Prelude.{◌≡◌, ◌≢◌, ℕ, ◌≤◌, Bool, true, ◌&&◌, ◌||◌, not, ◌==◌, ⊤, List, [], ◌∷◌, length, map, filter, count_by, ◌⊎◌, IsTrue, IsFalse, IsPermutation, is_some}
use Rattle.std.specs.Ordering.{int_eq}
use Rattle.std.specs.List.{list_all, AllByRecursion}
use Rattle.geo_exact.specs.Position.{Position, OnTheMap}
use Rattle.geo_exact.specs.Segment.{HaveCommonLocation, location}
use Rattle.geo_exact.specs.Sector.{in_sector}
use Rattle.cad_rows.specs.Limits.{IsNumber, IsLabel, row_limit, string_limit, source_limit}
use Rattle.cad_rows.specs.declared.rows.PointRow.{PointRow}
use Rattle.cad_rows.specs.declared.rows.StringRow.{StringRow}
use Rattle.cad_rows.specs.declared.rows.SourceRow.{SourceRow}
use Rattle.cad_rows.specs.declared.names.Face.TheVariants.{Outside, Parcel}
use Rattle.cad_rows.specs.declared.refusals.Rule.{Rule}
use Rattle.cad_rows.specs.declared.refusals.Rule.TheVariants.{V3, V4, V6, V7, V8}
use Rattle.cad_rings.specs.Cycle.{Ring, Corner, anchor_of}
use Rattle.cad_map.specs.Boundaries.{canonical_order}
use Rattle.cad_map.specs.Map.{Map, has_point, has_parcel, has_face, position_of, far_end, strings_at, string_sides, rings_of, all_sides, all_corners, left_face, right_face, is_positive, is_negative, is_in_ring}
use Rattle.numbered_rows.specs.Rows.{row_with}

-- the relation holds between each element and each later one
abbrev pub EachPair : {X : Type 0} → (X → X → Type 0) → List X → Type 0
EachPair R [] = ⊤
EachPair R (x ∷ xs) = AllByRecursion (R x) xs × EachPair R xs

-- ---- V1, numbers, references and limits

-- each number is in range, and none stands twice
pub record AreNumbers (numbers : List ℕ) : Type 0 where
  pub in_range : AllByRecursion IsNumber numbers
  pub distinct : EachPair (λ a b. a ≢ b) numbers

-- the sources of one item, each a row of these: known, none twice, and not too many
pub record AreSources (rows : List SourceRow) (sources : List ℕ) : Type 0 where
  pub known : AllByRecursion (λ s. IsTrue (is_some (row_with (λ (r : SourceRow). r.number) s rows))) sources
  pub distinct : EachPair (λ a b. a ≢ b) sources
  pub few : length sources ≤ source_limit

pub record HasSoundRows (m : Map) : Type 0 where
  pub sources : AreNumbers (map (λ r. r.number) m.sources)
  pub points : AreNumbers (map (λ r. r.number) m.points)
  pub parcels : AreNumbers (map (λ r. r.number) m.parcels)
  pub strings : AreNumbers (map (λ r. r.number) m.strings)
  pub retired : AreNumbers m.retired
  pub retired_for_good : AllByRecursion (λ n. IsFalse (has_parcel m n)) m.retired
  pub texts : AllByRecursion (λ r. IsLabel r.text) m.sources
  pub labels : AllByRecursion (λ r. IsLabel r.label) m.parcels
  pub positions : AllByRecursion (λ r. OnTheMap r.position) m.points
  pub ends : AllByRecursion (λ s. IsTrue (has_point m s.from) × IsTrue (has_point m s.to)) m.strings
  pub points_of_rings : AllByRecursion (λ b. AllByRecursion (λ p. IsTrue (has_point m p)) b.ring) m.boundaries
  pub faces_of_rings : AllByRecursion (λ b. IsTrue (has_face m b.face)) m.boundaries
  pub point_sources : AllByRecursion (λ r. AreSources m.sources r.sources) m.points
  pub parcel_sources : AllByRecursion (λ r. AreSources m.sources r.sources) m.parcels
  pub string_sources : AllByRecursion (λ r. AreSources m.sources r.sources) m.strings
  pub few_sources : length m.sources ≤ row_limit
  pub few_points : length m.points ≤ row_limit
  pub few_parcels : length m.parcels ≤ row_limit
  pub few_strings : length m.strings ≤ string_limit
  pub few_retired : length m.retired ≤ row_limit
  pub canonical : canonical_order m.boundaries ≡ m.boundaries

-- ---- V2

-- a string's two points differ
abbrev pub HasTwoEnds : Map → Type 0
HasTwoEnds m = AllByRecursion (λ s. s.from ≢ s.to) m.strings

-- ---- V3

abbrev pub is_same_position : Position → Position → Bool
is_same_position a b = int_eq a.x b.x && int_eq a.y b.y

-- the test passes for each element and each later one
abbrev pub each_pair : {X : Type 0} → (X → X → Bool) → List X → Bool
each_pair test [] = true
each_pair test (x ∷ xs) = list_all (test x) xs && each_pair test xs

-- no two points have the same position
abbrev pub has_distinct_positions : Map → Bool
has_distinct_positions m = each_pair (λ a b. not (is_same_position a.position b.position)) m.points

-- ---- V4

-- the two strings, as the straight lines between their points, have a common location
abbrev pub HaveCommon : Map → StringRow → StringRow → Type 0
HaveCommon m s t = HaveCommonLocation (position_of m s.from) (position_of m s.to) (position_of m t.from) (position_of m t.to)

-- p is an end of both strings, and the common location is its position
pub record IsSharedEnd (m : Map) (s t : StringRow) (common : HaveCommon m s t) (p : ℕ) : Type 0 where
  pub of_first : (s.from ≡ p) ⊎ (s.to ≡ p)
  pub of_second : (t.from ≡ p) ⊎ (t.to ≡ p)
  pub there : location common.n (position_of m s.from) common.s (position_of m s.to) ≡ location common.n (position_of m p) 0 (position_of m p)

-- two strings have no common location but a shared end
abbrev pub MeetAtEnds : Map → StringRow → StringRow → Type 0
MeetAtEnds m s t = (common : HaveCommon m s t) → (p : ℕ) × IsSharedEnd m s t common p

-- a point lies on a string only as its end
abbrev pub LiesOnlyAsEnd : Map → PointRow → StringRow → Type 0
LiesOnlyAsEnd m p s = HaveCommonLocation (position_of m s.from) (position_of m s.to) p.position p.position → (s.from ≡ p.number) ⊎ (s.to ≡ p.number)

pub record HasNoCrossing (m : Map) : Type 0 where
  pub strings : EachPair (MeetAtEnds m) m.strings
  pub points : AllByRecursion (λ p. AllByRecursion (LiesOnlyAsEnd m p) m.strings) m.points

-- ---- V5

-- each side of each string is in one ring, once, no other side is in any, and a string has different faces on its two sides
pub record HasCompleteRings (m : Map) : Type 0 where
  pub three : AllByRecursion (λ b. 3 ≤ length b.ring) m.boundaries
  pub once : IsPermutation (string_sides m) (all_sides m)
  pub two_faces : AllByRecursion (λ s. left_face m s ≢ right_face m s) m.strings

-- ---- V6

-- No string lies in the sector of the corner. (The two that make the corner are its borders, and never lie in it.)
abbrev pub is_empty_corner : Map → Corner → Bool
is_empty_corner m c =
    list_all (λ s. not (in_sector (position_of m c.at) (position_of m c.after) (position_of m c.before) (position_of m (far_end s c.at)))) (strings_at m c.at)

abbrev pub has_empty_corners : Map → Bool
has_empty_corners m = list_all (is_empty_corner m) (all_corners m)

-- ---- V7

-- of these rings so many have positive doubled area, and all others negative
abbrev pub has_outlines : ℕ → Map → List Ring → Bool
has_outlines n m rings = (count_by (is_positive m) rings == n) && list_all (λ r. is_positive m r || is_negative m r) rings

-- the outside has no outline, and each parcel has one
abbrev pub has_one_outline_each : Map → Bool
has_one_outline_each m = has_outlines 0 m (rings_of m Outside) && list_all (λ p. has_outlines 1 m (rings_of m (Parcel p.number))) m.parcels

-- ---- V8

-- the anchor of each negative ring is inside each positive ring of the face
abbrev pub are_holes_inside : Map → List Ring → Bool
are_holes_inside m rings =
    list_all (λ hole. list_all (λ outline. is_in_ring m outline (anchor_of hole)) (filter (is_positive m) rings)) (filter (is_negative m) rings)

-- and of two negative rings neither has the other's anchor inside
abbrev pub are_holes_apart : Map → List Ring → Bool
are_holes_apart m rings =
    each_pair (λ a b. not (is_in_ring m a (anchor_of b)) && not (is_in_ring m b (anchor_of a))) (filter (is_negative m) rings)

abbrev pub has_sound_holes : Map → List Ring → Bool
has_sound_holes m rings = are_holes_inside m rings && are_holes_apart m rings

abbrev pub has_holes_in_place : Map → Bool
has_holes_in_place m = has_sound_holes m (rings_of m Outside) && list_all (λ p. has_sound_holes m (rings_of m (Parcel p.number))) m.parcels

-- ---- All of them

-- what an edit of a valid map never breaks by itself
pub record IsSound (m : Map) : Type 0 where
  pub v1 : HasSoundRows m
  pub v2 : HasTwoEnds m
  pub v5 : HasCompleteRings m

-- the rules that an edit can break first
abbrev pub Keeps : Map → Rule → Type 0
Keeps m V3 = IsTrue (has_distinct_positions m)
Keeps m V4 = HasNoCrossing m
Keeps m V6 = IsTrue (has_empty_corners m)
Keeps m V7 = IsTrue (has_one_outline_each m)
Keeps m V8 = IsTrue (has_holes_in_place m)

-- the map keeps each of these rules
pub record KeepsAll (m : Map) : Type 0 where
  pub v3 : Keeps m V3
  pub v4 : Keeps m V4
  pub v6 : Keeps m V6
  pub v7 : Keeps m V7
  pub v8 : Keeps m V8

pub record IsValid (m : Map) : Type 0 where
  pub sound : IsSound m
  pub keeps : KeepsAll m

-- the rules before this one
abbrev pub earlier : Rule → List Rule
earlier V3 = []
earlier V4 = V3 ∷ []
earlier V6 = V3 ∷ V4 ∷ []
earlier V7 = V3 ∷ V4 ∷ V6 ∷ []
earlier V8 = V3 ∷ V4 ∷ V6 ∷ V7 ∷ []

-- the first rule that the map breaks
pub record FirstBroken (m : Map) (r : Rule) : Type 0 where
  pub kept : AllByRecursion (Keeps m) (earlier r)
  pub broken : ¬ Keeps m r

-- A map of which it can be asked what rule it breaks first: where it breaks V3 or V4 its rings may be anything.
pub record CanBeTested (m : Map) : Type 0 where
  pub v1 : HasSoundRows m
  pub v2 : HasTwoEnds m
  pub v5 : Keeps m V3 → Keeps m V4 → HasCompleteRings m
