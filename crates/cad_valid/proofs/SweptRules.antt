-- What sweeps over the boxes of a map's points and strings tell of V3 and V4.
use Rattle.std.proofs.Common.{◌≡◌, ◌≢◌, ℕ, ◌+◌, ◌<◌, List, map, length, slice_get, Some, Bool, true, false, not, eqb, refl, sym, ap, subst, ◌∙◌, true≢false, arith, inl, inr, ◌⊎◌}
use Rattle.std.specs.Prelude.{if◌then◌else◌, ◌&&◌}
use Rattle.std.specs.Bool.{OnTrue, OnFalse}
use Rattle.std.specs.Ordering.{int_eq}
use Rattle.std.specs.List.{AllByRecursion}
use Rattle.std.proofs.lemmas.Bool.{and_parts, and_from, eqb-true, eq-eqb, false_from_ne_true, cases_lt, OnTrue_at, OnFalse_at}
use Rattle.std.proofs.lemmas.Bool.Decides.{Decides-int_eq}
use Rattle.std.proofs.lemmas.Cmp.{int_eq_equiv}
use Rattle.std.proofs.lemmas.Option.{slice_get_within}
use Rattle.geo_exact.specs.Position.{Position, OnTheMap}
use Rattle.sweep.specs.Extents.{Overlap, AllThatOverlapPass, SomePairFails}
use Rattle.cad_rows.specs.declared.rows.PointRow.{PointRow}
use Rattle.cad_rows.specs.declared.rows.StringRow.{StringRow}
use Rattle.cad_map.specs.Map.{Map}
use Rattle.cad_map.specs.Valid.{is_same_position, each_pair, HaveCommon, MeetAtEnds, LiesOnlyAsEnd, HasNoCrossing, HasSoundRows, HasTwoEnds}
use Rattle.cad_map.specs.Crossings.{HasPlacedRows}
use Rattle.cad_map.proofs.CallerLemmas.{EachPair-from_test, placed-at, position-on_map}
use Rattle.cad_valid.specs.declared.placed.Placed.{Placed}
use Rattle.cad_valid.specs.Boxes.{box_of}
use Rattle.cad_valid.specs.Placed.{placed_string, placed_point, meets_at_ends, is_only_end}
use Rattle.cad_valid.specs.Swept.{passes_at, lie_apart, is_point, have_no_crossing, are_clear, placed_strings, placed_points, placed_rows}
use Rattle.cad_valid.proofs.BoxesOfMap.{IsOnMap, overlap-common}
use Rattle.cad_valid.proofs.PlacedStrings.{meets_at_ends-is, is_only_end-is}
use Rattle.cad_valid.proofs.SweptPairs.{All-from_places, All-at_place, EachPair-from_places, EachPair-at_places, each_pair-true, get-first, get-second, get-either, get-mapped, from-mapped, passed-two, pass-less, HasFailing, failing}

-- of two different places one is the lesser
either_order : (i j : ℕ) → i ≢ j → (i < j) ⊎ (j < i)
either_order i j apart = elim (cases_lt i j) [
  | inl lt ↦ inl lt
  | inr ge ↦ elim (cases_lt j i) [ inl lt ↦ inr lt | inr le ↦ absurd (apart (omega arith)) ]
]

-- ---- V3

pub same_position : (p q : Position) → is_same_position p q ≡ true → p ≡ q
same_position p q same =
    let both = and_parts (int_eq p.x q.x) (int_eq p.y q.y) same in
    let x = (Decides-int_eq p.x q.x).0 both.0 in
    let y = (Decides-int_eq p.y q.y).0 both.1 in
    λ i. record { x = x i; y = y i }

pub same_itself : (p : Position) → is_same_position p p ≡ true
same_itself p = and_from (int_eq p.x p.x) (int_eq p.y p.y) (int_eq_equiv.refl p.x) (int_eq_equiv.refl p.y)

same_back : (p q : Position) → is_same_position p q ≡ true → is_same_position q p ≡ true
same_back p q same = subst (λ (r : Position). is_same_position r p ≡ true) (same_position p q same) (same_itself p)

-- the test of V3 on two rows
abbrev differ : PointRow → PointRow → Bool
differ r t = not (is_same_position r.position t.position)

overlap_itself : (f : Placed) → Overlap (box_of f) (box_of f)
overlap_itself f = record { a_left = omega arith; b_left = omega arith; a_bottom = omega arith; b_bottom = omega arith }

module _ (points : List PointRow) where
  -- positions differ where each two points whose boxes overlap are tested, in one of the two orders
  distinct-from : ((i j : ℕ) (r t : PointRow) → i ≢ j → slice_get points i ≡ Some r → slice_get points j ≡ Some t
      → Overlap (box_of (placed_point r)) (box_of (placed_point t)) → (differ r t ≡ true) ⊎ (differ t r ≡ true)) → each_pair differ points ≡ true
  distinct-from tested = each_pair-true differ points (EachPair-from_places (λ r t. differ r t ≡ true) points each)
    where
      each : (i j : ℕ) (r t : PointRow) → i < j → slice_get points i ≡ Some r → slice_get points j ≡ Some t → differ r t ≡ true
      each i j r t lt at_r at_t = by (is_same_position r.position t.position) refl
        where
          by : (b : Bool) → is_same_position r.position t.position ≡ b → differ r t ≡ true
          by false is = ap not is
          by true is =
              let one = same_position r.position t.position is in
              let met : Overlap (box_of (placed_point r)) (box_of (placed_point t)) =
              subst (λ (p : Position). Overlap (box_of (placed_point r)) (box_of (record { from = t.number; to = t.number; a = p; b = p }))) one (overlap_itself (placed_point r)) in
              elim (tested i j r t (λ e. absurd (omega arith)) at_r at_t met) [
                | inl passes ↦ passes
                | inr passes ↦ absurd (true≢false (sym passes ∙ ap not (same_back r.position t.position is)))
              ]

  distinct-passed : AllThatOverlapPass (passes_at lie_apart (map placed_point points)) (map box_of (map placed_point points)) → each_pair differ points ≡ true
  distinct-passed all =
      let asked = passed-two lie_apart (map placed_point points) all in
      distinct-from (λ i j r t apart at_r at_t met. asked i j (placed_point r) (placed_point t) (get-mapped placed_point points i r at_r) (get-mapped placed_point points j t at_t) apart met)

  pub distinct-failed : SomePairFails (passes_at lie_apart (map placed_point points)) (length (map box_of (map placed_point points))) → each_pair differ points ≡ false
  distinct-failed some = by (each_pair differ points) refl
    where
      h : HasFailing lie_apart (map placed_point points)
      h = failing lie_apart (map placed_point points) some

      first : (r : PointRow) × (slice_get points h.i ≡ Some r) × (placed_point r ≡ h.f)
      first = from-mapped placed_point points h.i h.f h.f_at

      second : (t : PointRow) × (slice_get points h.j ≡ Some t) × (placed_point t ≡ h.g)
      second = from-mapped placed_point points h.j h.g h.g_at

      fails : differ first.0 second.0 ≡ false
      fails = (λ k. lie_apart (first.2 k) (second.2 k)) ∙ h.fails

      same : (b : Bool) → not b ≡ false → b ≡ true
      same true is = refl
      same false is = absurd (true≢false is)

      fails_back : differ second.0 first.0 ≡ false
      fails_back = ap not (same_back first.0.position second.0.position (same (is_same_position first.0.position second.0.position) fails))

      by : (b : Bool) → each_pair differ points ≡ b → each_pair differ points ≡ false
      by false is = is
      by true is =
          let each = EachPair-from_test differ points is in
          elim (either_order h.i h.j h.apart) [
            | inl lt ↦ absurd (true≢false (sym (EachPair-at_places (λ r t. differ r t ≡ true) points h.i h.j first.0 second.0 each lt first.1 second.1) ∙ fails))
            | inr lt ↦ absurd (true≢false (sym (EachPair-at_places (λ r t. differ r t ≡ true) points h.j h.i second.0 first.0 each lt second.1 first.1) ∙ fails_back))
          ]

  -- so the sweep's answer is whether positions differ
  pub distinct-answer : (b : Bool) → OnTrue b (AllThatOverlapPass (passes_at lie_apart (map placed_point points)) (map box_of (map placed_point points)))
      → OnFalse b (SomePairFails (passes_at lie_apart (map placed_point points)) (length (map box_of (map placed_point points)))) → b ≡ each_pair differ points
  distinct-answer true passed failed = sym (distinct-passed (OnTrue_at refl passed))
  distinct-answer false passed failed = sym (distinct-failed (OnFalse_at refl failed))

-- ---- V4

-- the order of two strings doesn't matter
pub meet-exchanged : (m : Map) (s t : StringRow) → MeetAtEnds m t s → MeetAtEnds m s t
meet-exchanged m s t meet common =
    let back : HaveCommon m t s =
    record { n = common.n; s = common.t; t = common.s; some = common.some; on_first = common.on_second; on_second = common.on_first; same = sym common.same } in
    let found = meet back in
    (found.0, record { of_first = found.1.of_second; of_second = found.1.of_first; there = common.same ∙ found.1.there })

-- the test that is made, by what the two are
chosen : (f g : Placed) (b c : Bool) → is_point f ≡ b → is_point g ≡ c
    → have_no_crossing f g ≡ (if b then (if c then true else is_only_end f g) else (if c then is_only_end g f else meets_at_ends f g))
chosen f g b c is_b is_c = λ k. if is_b k then (if is_c k then true else is_only_end f g) else (if is_c k then is_only_end g f else meets_at_ends f g)

pub point_is : (p : PointRow) → is_point (placed_point p) ≡ true
point_is p = eq-eqb p.number p.number refl

point_at : (m : Map) (k : ℕ) (p : PointRow) → slice_get m.points k ≡ Some p → slice_get (placed_rows m) (length (placed_strings m) + k) ≡ Some (placed_point p)
point_at m k p at = get-second (placed_strings m) (placed_points m) k (placed_point p) (get-mapped placed_point m.points k p at)

module _ (m : Map) (rows : HasPlacedRows m) where
  string_is : (i : ℕ) (s : StringRow) → slice_get m.strings i ≡ Some s → is_point (placed_string m s) ≡ false
  string_is i s at = false_from_ne_true (eqb s.from s.to) (λ same. (placed-at m rows i s at).two (eqb-true s.from s.to same))

  pub string_on : (s : StringRow) → IsOnMap (placed_string m s)
  string_on s = record { a = position-on_map m rows.v1 s.from; b = position-on_map m rows.v1 s.to }

  pub point_on : (k : ℕ) (p : PointRow) → slice_get m.points k ≡ Some p → IsOnMap (placed_point p)
  point_on k p at = let on = All-at_place (λ r. OnTheMap r.position) m.points k p rows.v1.positions at in record { a = on; b = on }

  pub string_at : (i : ℕ) (s : StringRow) → slice_get m.strings i ≡ Some s → slice_get (placed_rows m) i ≡ Some (placed_string m s)
  string_at i s at = get-first (placed_strings m) (placed_points m) i (placed_string m s) (get-mapped (placed_string m) m.strings i s at)

  -- the tests, as what they say of strings and points at their places
  module _ (i j : ℕ) (s t : StringRow) (at_s : slice_get m.strings i ≡ Some s) (at_t : slice_get m.strings j ≡ Some t) where
    pub strings_pass : MeetAtEnds m s t → have_no_crossing (placed_string m s) (placed_string m t) ≡ true
    strings_pass meet =
        chosen (placed_string m s) (placed_string m t) false false (string_is i s at_s) (string_is j t at_t)
        ∙ (meets_at_ends-is m rows s t (placed-at m rows i s at_s) (placed-at m rows j t at_t)).1 meet

    pub strings_passed : have_no_crossing (placed_string m s) (placed_string m t) ≡ true → MeetAtEnds m s t
    strings_passed passes =
        (meets_at_ends-is m rows s t (placed-at m rows i s at_s) (placed-at m rows j t at_t)).0
        (sym (chosen (placed_string m s) (placed_string m t) false false (string_is i s at_s) (string_is j t at_t)) ∙ passes)

  module _ (i : ℕ) (s : StringRow) (at_s : slice_get m.strings i ≡ Some s) (p : PointRow) where
    pub point_string : have_no_crossing (placed_point p) (placed_string m s) ≡ is_only_end (placed_point p) (placed_string m s)
    point_string = chosen (placed_point p) (placed_string m s) true false (point_is p) (string_is i s at_s)

    pub string_point : have_no_crossing (placed_string m s) (placed_point p) ≡ is_only_end (placed_point p) (placed_string m s)
    string_point = chosen (placed_string m s) (placed_point p) false true (string_is i s at_s) (point_is p)

  pub uncrossed-passed : AllThatOverlapPass (passes_at have_no_crossing (placed_rows m)) (map box_of (placed_rows m)) → HasNoCrossing m
  uncrossed-passed all = record {
    strings = EachPair-from_places (MeetAtEnds m) m.strings two;
    points = All-from_places (λ p. AllByRecursion (LiesOnlyAsEnd m p) m.strings) m.points (λ k p at_p. All-from_places (LiesOnlyAsEnd m p) m.strings (λ i s at_s. one k p at_p i s at_s));
  }
    where
      two : (i j : ℕ) (s t : StringRow) → i < j → slice_get m.strings i ≡ Some s → slice_get m.strings j ≡ Some t → MeetAtEnds m s t
      two i j s t lt at_s at_t common =
          let met = overlap-common (placed_string m s) (placed_string m t) (string_on s) (string_on t) common in
          elim (passed-two have_no_crossing (placed_rows m) all i j (placed_string m s) (placed_string m t) (string_at i s at_s) (string_at j t at_t) (λ e. absurd (omega arith)) met) [
            | inl passes ↦ strings_passed i j s t at_s at_t passes common
            | inr passes ↦ meet-exchanged m s t (strings_passed j i t s at_t at_s passes) common
          ]

      one : (k : ℕ) (p : PointRow) → slice_get m.points k ≡ Some p → (i : ℕ) (s : StringRow) → slice_get m.strings i ≡ Some s → LiesOnlyAsEnd m p s
      one k p at_p i s at_s common =
          let met = overlap-common (placed_string m s) (placed_point p) (string_on s) (point_on k p at_p) common in
          let within = slice_get_within (placed_strings m) i (placed_string m s) (get-mapped (placed_string m) m.strings i s at_s) in
          let j = length (placed_strings m) + k in
          elim (passed-two have_no_crossing (placed_rows m) all i j (placed_string m s) (placed_point p) (string_at i s at_s) (point_at m k p at_p) (λ e. absurd (omega arith)) met) [
            | inl passes ↦ (is_only_end-is m p s).0 (sym (string_point i s at_s p) ∙ passes) common
            | inr passes ↦ (is_only_end-is m p s).0 (sym (point_string i s at_s p) ∙ passes) common
          ]

  pub uncrossed-failed : SomePairFails (passes_at have_no_crossing (placed_rows m)) (length (map box_of (placed_rows m))) → ¬ HasNoCrossing m
  uncrossed-failed some none = true≢false (sym passes ∙ h.fails)
    where
      h : HasFailing have_no_crossing (placed_rows m)
      h = failing have_no_crossing (placed_rows m) some

      of_strings : (s t : StringRow) → slice_get m.strings h.i ≡ Some s → slice_get m.strings h.j ≡ Some t → MeetAtEnds m s t
      of_strings s t at_s at_t = elim (either_order h.i h.j h.apart) [
        | inl lt ↦ EachPair-at_places (MeetAtEnds m) m.strings h.i h.j s t none.strings lt at_s at_t
        | inr lt ↦ meet-exchanged m s t (EachPair-at_places (MeetAtEnds m) m.strings h.j h.i t s none.strings lt at_t at_s)
      ]

      of_point : (k i : ℕ) (p : PointRow) (s : StringRow) → slice_get m.points k ≡ Some p → slice_get m.strings i ≡ Some s → is_only_end (placed_point p) (placed_string m s) ≡ true
      of_point k i p s at_p at_s =
          (is_only_end-is m p s).1 (All-at_place (LiesOnlyAsEnd m p) m.strings i s (All-at_place (λ q. AllByRecursion (LiesOnlyAsEnd m q) m.strings) m.points k p none.points at_p) at_s)

      passes : have_no_crossing h.f h.g ≡ true
      passes = elim (get-either (placed_strings m) (placed_points m) h.i h.f h.f_at) [
        | inl f_string ↦
            let s = from-mapped (placed_string m) m.strings h.i h.f f_string in
            elim (get-either (placed_strings m) (placed_points m) h.j h.g h.g_at) [
              | inl g_string ↦
                  let t = from-mapped (placed_string m) m.strings h.j h.g g_string in
                  sym (λ k. have_no_crossing (s.2 k) (t.2 k)) ∙ strings_pass h.i h.j s.0 t.0 s.1 t.1 (of_strings s.0 t.0 s.1 t.1)
              | inr g_point ↦
                  let q = from-mapped placed_point m.points g_point.0 h.g g_point.1 in
                  sym (λ k. have_no_crossing (s.2 k) (q.2 k)) ∙ string_point h.i s.0 s.1 q.0 ∙ of_point g_point.0 h.i q.0 s.0 q.1 s.1
            ]
        | inr f_point ↦
            let p = from-mapped placed_point m.points f_point.0 h.f f_point.1 in
            elim (get-either (placed_strings m) (placed_points m) h.j h.g h.g_at) [
              | inl g_string ↦
                  let t = from-mapped (placed_string m) m.strings h.j h.g g_string in
                  sym (λ k. have_no_crossing (p.2 k) (t.2 k)) ∙ point_string h.j t.0 t.1 p.0 ∙ of_point f_point.0 h.j p.0 t.0 p.1 t.1
              | inr g_point ↦
                  let q = from-mapped placed_point m.points g_point.0 h.g g_point.1 in
                  sym (λ k. have_no_crossing (p.2 k) (q.2 k)) ∙ chosen (placed_point p.0) (placed_point q.0) true true (point_is p.0) (point_is q.0)
            ]
      ]

-- ---- V3 and V4 in one

clear-chosen : (f g : Placed) (b c : Bool) → is_point f ≡ b → is_point g ≡ c → are_clear f g ≡ (if b && c then lie_apart f g else have_no_crossing f g)
clear-chosen f g b c is_b is_c = λ k. if is_b k && is_c k then lie_apart f g else have_no_crossing f g

-- two that pass both tests have no crossing
clear-uncrossed : (f g : Placed) → are_clear f g ≡ true → have_no_crossing f g ≡ true
clear-uncrossed f g clear = by (is_point f) (is_point g) refl refl
  where
    by : (b c : Bool) → is_point f ≡ b → is_point g ≡ c → have_no_crossing f g ≡ true
    by true true is_f is_g = chosen f g true true is_f is_g
    by true false is_f is_g = sym (clear-chosen f g true false is_f is_g) ∙ clear
    by false c is_f is_g = sym (clear-chosen f g false c is_f is_g) ∙ clear

-- and of two points it is asked whether they differ
clear-differ : (r t : PointRow) → are_clear (placed_point r) (placed_point t) ≡ differ r t
clear-differ r t = clear-chosen (placed_point r) (placed_point t) true true (point_is r) (point_is t)

module _ (m : Map) (sound : HasSoundRows m) (two : HasTwoEnds m)
    (all : AllThatOverlapPass (passes_at are_clear (placed_rows m)) (map box_of (placed_rows m))) where
  pub clear-distinct : each_pair differ m.points ≡ true
  clear-distinct = distinct-from m.points asked
    where
      asked : (i j : ℕ) (r t : PointRow) → i ≢ j → slice_get m.points i ≡ Some r → slice_get m.points j ≡ Some t
          → Overlap (box_of (placed_point r)) (box_of (placed_point t)) → (differ r t ≡ true) ⊎ (differ t r ≡ true)
      asked i j r t apart at_r at_t met =
          let n = length (placed_strings m) in
          elim (passed-two are_clear (placed_rows m) all (n + i) (n + j) (placed_point r) (placed_point t) (point_at m i r at_r) (point_at m j t at_t) (λ e. apart (omega arith)) met) [
            | inl passes ↦ inl (sym (clear-differ r t) ∙ passes)
            | inr passes ↦ inr (sym (clear-differ t r) ∙ passes)
          ]

  pub clear-passed : HasNoCrossing m
  clear-passed = uncrossed-passed m (record { v1 = sound; v2 = two; v3 = clear-distinct }) (pass-less are_clear (placed_rows m) have_no_crossing clear-uncrossed all)
