-- No side stands twice: two strings with the same two ends would meet half-way.
use Rattle.std.proofs.Common.{◌≡◌, ◌≢◌, refl, sym, ap, ◌∙◌, List, [], ◌∷◌, Bool, true, false, eqb, flat_map, inl, inr}
use Rattle.std.specs.Prelude.{◌↔◌, IsTrue, IsPermutation}
use Rattle.std.specs.List.{AllByRecursion, IsDistinct}
use Rattle.std.proofs.lemmas.Bool.{eq-eqb, and_from, iff_false, false_from_ne_true}
use Rattle.std.proofs.lemmas.Map.Keys.{IsDistinct-IsPermutation}
use Rattle.cad_rows.specs.declared.rows.StringRow.{StringRow}
use Rattle.cad_rings.specs.Cycle.{Side, is_side, opposite}
use Rattle.cad_rings.proofs.CallerLemmas.{is_side-same}
use Rattle.cad_map.specs.Map.{Map, side_of, is_end, far_end, string_sides, all_sides}
use Rattle.cad_map.specs.Valid.{EachPair, MeetAtEnds, HasNoCrossing, HasCompleteRings}
use Rattle.cad_map.specs.Crossings.{HasPlacedRows, HasTwoPoints}
use Rattle.cad_map.proofs.Ends.Meetings.{is_end-from, is_end-of, far_end-from, other_end, all-placed, far_end-away, twins}

-- ---- Lists without repetitions

module _ {X : Type 0} (same : X → X → Bool) (is : (a b : X) → IsTrue (same a b) ↔ (a ≡ b)) where
  flips : (a b : X) → same a b ≡ same b a
  flips a b = by (same a b) (same b a) refl refl
    where
      by : (s t : Bool) → same a b ≡ s → same b a ≡ t → s ≡ t
      by true true h k = refl
      by true false h k = absurd (iff_false (is b a) k (sym ((is a b).0 h)))
      by false true h k = absurd (iff_false (is a b) h (sym ((is b a).0 k)))
      by false false h k = refl

  from_pairs : (xs : List X) → EachPair (λ a b. a ≢ b) xs → IsDistinct same xs
  unfolding IsDistinct
  from_pairs [] pairs = tt
  from_pairs (x ∷ xs) pairs = (each xs pairs.0, from_pairs xs pairs.1)
    where
      each : (ys : List X) → AllByRecursion (λ y. x ≢ y) ys → AllByRecursion (λ y. same x y ≡ false) ys
      each [] all = tt
      each (y ∷ ys) all = (false_from_ne_true (same x y) (λ h. all.0 ((is x y).0 h)), each ys all.1)

  to_pairs : (xs : List X) → IsDistinct same xs → EachPair (λ a b. a ≢ b) xs
  unfolding IsDistinct
  to_pairs [] distinct = tt
  to_pairs (x ∷ xs) distinct = (each xs distinct.0, to_pairs xs distinct.1)
    where
      each : (ys : List X) → AllByRecursion (λ y. same x y ≡ false) ys → AllByRecursion (λ y. x ≢ y) ys
      each [] all = tt
      each (y ∷ ys) all = (iff_false (is x y) all.0, each ys all.1)

  -- in another order it has none either
  pub pairs-IsPermutation : (xs ys : List X) → IsPermutation xs ys → EachPair (λ a b. a ≢ b) xs → EachPair (λ a b. a ≢ b) ys
  pairs-IsPermutation xs ys moved pairs = to_pairs ys (IsDistinct-IsPermutation same flips xs ys moved (from_pairs xs pairs))

pub is_side-is : (a b : Side) → IsTrue (is_side a b) ↔ (a ≡ b)
is_side-is a b = (is_side-same a b, (λ e. and_from (eqb a.0 b.0) (eqb a.1 b.1) (eq-eqb a.0 b.0 (ap (λ (s : Side). s.0) e)) (eq-eqb a.1 b.1 (ap (λ (s : Side). s.1) e))))

-- ---- Strings

module _ (m : Map) (rows : HasPlacedRows m) where
  -- no two strings have both ends in common
  pub not_parallel : (s t : StringRow) → HasTwoPoints m s → MeetAtEnds m s t → is_end t s.from ≡ true → is_end t s.to ≡ true → ⊥
  not_parallel s t placed meet at_from at_to =
      twins m s t s.from (record { of_first = is_end-from s; of_second = at_from })
      (λ e. far_end-away m rows s placed s.from (is_end-from s) (sym e))
      (far_end-from s ∙ far) meet
    where
      far : s.to ≡ far_end t s.from
      far = elim (other_end t s.from s.to at_from at_to) [ inl e ↦ absurd (placed.two (sym e)) | inr e ↦ e ]

  -- a side with the ends of a string is no side of another
  apart_from : (s : StringRow) → HasTwoPoints m s → (a : Side) → ((t : StringRow) → is_end t a.0 ≡ true → is_end t a.1 ≡ true → (is_end t s.from ≡ true) × (is_end t s.to ≡ true))
      → (strings : List StringRow) → AllByRecursion (MeetAtEnds m s) strings → AllByRecursion (λ b. a ≢ b) (flat_map (λ t. side_of t ∷ opposite (side_of t) ∷ []) strings)
  apart_from s placed a its_ends [] meet = tt
  apart_from s placed a its_ends (t ∷ strings) meet = (
    (λ e. hit (is_end-of t a.0 (inl (ap (λ (b : Side). b.0) (sym e)))) (is_end-of t a.1 (inr (ap (λ (b : Side). b.1) (sym e))))),
    (
      (λ e. hit (is_end-of t a.0 (inr (ap (λ (b : Side). b.0) (sym e)))) (is_end-of t a.1 (inl (ap (λ (b : Side). b.1) (sym e))))),
      apart_from s placed a its_ends strings meet.1,
    ),
  )
    where
      hit : is_end t a.0 ≡ true → is_end t a.1 ≡ true → ⊥
      hit first second = let both = its_ends t first second in not_parallel s t placed meet.0 both.0 both.1

  once : (strings : List StringRow) → AllByRecursion (HasTwoPoints m) strings → EachPair (MeetAtEnds m) strings → EachPair (λ a b. a ≢ b) (flat_map (λ t. side_of t ∷ opposite (side_of t) ∷ []) strings)
  once [] placed meet = tt
  once (s ∷ strings) placed meet = (
    ((λ e. placed.0.two (ap (λ (b : Side). b.0) e)), apart_from s placed.0 (side_of s) (λ t h k. (h, k)) strings meet.0),
    (apart_from s placed.0 (opposite (side_of s)) (λ t h k. (k, h)) strings meet.0, once strings placed.1 meet.1),
  )

  pub string_sides-once : HasNoCrossing m → EachPair (λ a b. a ≢ b) (string_sides m)
  string_sides-once v4 = once m.strings (all-placed m rows) v4.strings

  pub all_sides-once : HasNoCrossing m → HasCompleteRings m → EachPair (λ a b. a ≢ b) (all_sides m)
  all_sides-once v4 v5 = pairs-IsPermutation is_side is_side-is (string_sides m) (all_sides m) v5.once (string_sides-once v4)
