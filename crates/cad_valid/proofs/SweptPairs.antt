-- Elements of lists by their places, two by two, and what a sweep of their boxes tells of them.
use Rattle.std.proofs.Common.{◌≡◌, ◌≢◌, ℕ, zero, suc, ◌+◌, ◌<◌, List, [], ◌∷◌, ◌++◌, length, map, get_or, slice_get, Option, Some, None, Bool, true, false, refl, sym, ap, subst, ◌∙◌, true≢false, arith, inl, inr, ◌⊎◌}
use Rattle.std.specs.List.{AllByRecursion, list_all}
use Rattle.std.proofs.lemmas.Bool.{and_from}
use Rattle.std.proofs.lemmas.Option.{slice_get_within, get_or_from_slice_get}
use Rattle.sweep.specs.declared.extent.Extent.{Extent}
use Rattle.sweep.specs.Extents.{Overlap, AllThatOverlapPass, SomePairFails}
use Rattle.sweep.specs.Spans.{PassEitherWay}
use Rattle.cad_map.specs.Valid.{EachPair, each_pair}
use Rattle.cad_valid.specs.declared.placed.Placed.{Placed}
use Rattle.cad_valid.specs.Boxes.{box_of}
use Rattle.cad_valid.specs.Swept.{both_pass, passes_at}

-- ---- Elements by their places

module _ {X : Type 0} where
  pub All-from_places : (P : X → Type 0) (xs : List X) → ((i : ℕ) (x : X) → slice_get xs i ≡ Some x → P x) → AllByRecursion P xs
  All-from_places P [] each = tt
  All-from_places P (x ∷ xs) each = (each 0 x refl, All-from_places P xs (λ i y at. each (suc i) y at))

  pub EachPair-from_places : (R : X → X → Type 0) (xs : List X)
      → ((i j : ℕ) (x y : X) → i < j → slice_get xs i ≡ Some x → slice_get xs j ≡ Some y → R x y) → EachPair R xs
  EachPair-from_places R [] each = tt
  EachPair-from_places R (x ∷ xs) each = (
    All-from_places (R x) xs (λ j y at. each 0 (suc j) x y (omega arith) refl at),
    EachPair-from_places R xs (λ i j y z lt at_i at_j. each (suc i) (suc j) y z (omega arith) at_i at_j),
  )

  pub All-at_place : (P : X → Type 0) (xs : List X) (i : ℕ) (x : X) → AllByRecursion P xs → slice_get xs i ≡ Some x → P x
  All-at_place P [] i x all at = let none : None ≡ Some x = at in absurd (cc)
  All-at_place P (y ∷ xs) zero x all at = let same : y ≡ x = cc in subst P same all.0
  All-at_place P (y ∷ xs) (suc i) x all at = All-at_place P xs i x all.1 at

  pub EachPair-at_places : (R : X → X → Type 0) (xs : List X) (i j : ℕ) (x y : X) → EachPair R xs
      → i < j → slice_get xs i ≡ Some x → slice_get xs j ≡ Some y → R x y
  EachPair-at_places R [] i j x y each lt at_i at_j = let none : None ≡ Some x = at_i in absurd (cc)
  EachPair-at_places R (z ∷ xs) zero zero x y each lt at_i at_j = absurd (omega arith)
  EachPair-at_places R (z ∷ xs) zero (suc j) x y each lt at_i at_j =
      let same : z ≡ x = cc in
      subst (λ (w : X). R w y) same (All-at_place (R z) xs j y each.0 at_j)
  EachPair-at_places R (z ∷ xs) (suc i) zero x y each lt at_i at_j = absurd (omega arith)
  EachPair-at_places R (z ∷ xs) (suc i) (suc j) x y each lt at_i at_j = EachPair-at_places R xs i j x y each.1 (omega arith) at_i at_j

  all-true : (test : X → Bool) (xs : List X) → AllByRecursion (λ x. test x ≡ true) xs → list_all test xs ≡ true
  all-true test [] all = refl
  all-true test (x ∷ xs) all = and_from (test x) (list_all test xs) all.0 (all-true test xs all.1)

  -- a test that each pair passes
  pub each_pair-true : (test : X → X → Bool) (xs : List X) → EachPair (λ x y. test x y ≡ true) xs → each_pair test xs ≡ true
  each_pair-true test [] each = refl
  each_pair-true test (x ∷ xs) each = and_from (list_all (test x) xs) (each_pair test xs) (all-true (test x) xs each.0) (each_pair-true test xs each.1)

  -- ---- Two lists, one behind the other

  pub get-first : (xs ys : List X) (i : ℕ) (x : X) → slice_get xs i ≡ Some x → slice_get (xs ++ ys) i ≡ Some x
  get-first [] ys i x at = let none : None ≡ Some x = at in absurd (cc)
  get-first (z ∷ xs) ys zero x at = at
  get-first (z ∷ xs) ys (suc i) x at = get-first xs ys i x at

  pub get-second : (xs ys : List X) (k : ℕ) (y : X) → slice_get ys k ≡ Some y → slice_get (xs ++ ys) (length xs + k) ≡ Some y
  get-second [] ys k y at = let none : 0 + k ≡ k = omega arith in rw none at
  get-second (z ∷ xs) ys k y at =
      let next : suc (length xs) + k ≡ suc (length xs + k) = omega arith in
      rw next (get-second xs ys k y at)

  -- an element of the two stands in the first, or in the second
  pub get-either : (xs ys : List X) (i : ℕ) (x : X) → slice_get (xs ++ ys) i ≡ Some x → (slice_get xs i ≡ Some x) ⊎ ((k : ℕ) × (slice_get ys k ≡ Some x))
  get-either [] ys i x at = inr (i, at)
  get-either (z ∷ xs) ys zero x at = inl at
  get-either (z ∷ xs) ys (suc i) x at = get-either xs ys i x at

-- what stands at a place of a list that was mapped
pub get-mapped : {X Y : Type 0} (f : X → Y) (xs : List X) (i : ℕ) (x : X) → slice_get xs i ≡ Some x → slice_get (map f xs) i ≡ Some (f x)
get-mapped f [] i x at = let none : None ≡ Some x = at in absurd (cc)
get-mapped f (z ∷ xs) zero x at = let same : z ≡ x = cc in ap (λ y. Some (f y)) same
get-mapped f (z ∷ xs) (suc i) x at = get-mapped f xs i x at

pub from-mapped : {X Y : Type 0} (f : X → Y) (xs : List X) (i : ℕ) (y : Y) → slice_get (map f xs) i ≡ Some y → (x : X) × (slice_get xs i ≡ Some x) × (f x ≡ y)
from-mapped f [] i y at = let none : None ≡ Some y = at in absurd (cc)
from-mapped f (z ∷ xs) zero y at = let same : f z ≡ y = cc in (z, refl, same)
from-mapped f (z ∷ xs) (suc i) y at = from-mapped f xs i y at

-- ---- What a sweep tells

module _ (test : Placed → Placed → Bool) (items : List Placed) where
  -- where the test is passed at two places if the boxes there overlap, what stands there passes it
  pub passed-pair : (i j : ℕ) (f g : Placed) → slice_get items i ≡ Some f → slice_get items j ≡ Some g
      → ((d : Extent) → i < length (map box_of items) → j < length (map box_of items)
      → Overlap (get_or (map box_of items) i d) (get_or (map box_of items) j d) → PassEitherWay (passes_at test items) i j)
      → Overlap (box_of f) (box_of g) → (test f g ≡ true) ⊎ (test g f ≡ true)
  passed-pair i j f g at_f at_g pass overlap =
      let box_f = get-mapped box_of items i f at_f in
      let box_g = get-mapped box_of items j g at_g in
      let d = box_of f in
      let is_f : get_or (map box_of items) i d ≡ box_of f = get_or_from_slice_get (map box_of items) i (box_of f) d box_f in
      let is_g : get_or (map box_of items) j d ≡ box_of g = get_or_from_slice_get (map box_of items) j (box_of g) d box_g in
      let met : Overlap (get_or (map box_of items) i d) (get_or (map box_of items) j d) =
      subst (λ (b : Extent × Extent). Overlap b.0 b.1) (λ k. (sym is_f k, sym is_g k)) overlap in
      elim (pass d (slice_get_within (map box_of items) i (box_of f) box_f) (slice_get_within (map box_of items) j (box_of g) box_g) met) [
        | inl passes ↦ inl (sym (λ k. both_pass test (at_f k) (at_g k)) ∙ passes)
        | inr passes ↦ inr (sym (λ k. both_pass test (at_g k) (at_f k)) ∙ passes)
      ]

  -- two whose boxes overlap pass, in one of the two orders
  pub passed-two : AllThatOverlapPass (passes_at test items) (map box_of items) → (i j : ℕ) (f g : Placed)
      → slice_get items i ≡ Some f → slice_get items j ≡ Some g → i ≢ j → Overlap (box_of f) (box_of g)
      → (test f g ≡ true) ⊎ (test g f ≡ true)
  passed-two all i j f g at_f at_g apart overlap = passed-pair i j f g at_f at_g (λ d in_i in_j met. all i j d in_i in_j apart met) overlap

  -- what passes a test passes one that asks less
  pub pass-less : (less : Placed → Placed → Bool) → ((f g : Placed) → test f g ≡ true → less f g ≡ true)
      → AllThatOverlapPass (passes_at test items) (map box_of items) → AllThatOverlapPass (passes_at less items) (map box_of items)
  pass-less less asks all i j d in_i in_j apart met = elim (all i j d in_i in_j apart met) [
    | inl passes ↦ inl (one (slice_get items i) (slice_get items j) passes)
    | inr passes ↦ inr (one (slice_get items j) (slice_get items i) passes)
  ]
    where
      one : (o p : Option Placed) → both_pass test o p ≡ true → both_pass less o p ≡ true
      one (Some f) (Some g) passes = asks f g passes
      one (Some f) None passes = refl
      one None p passes = refl

  -- two that fail
  pub record HasFailing : Type 0 where
    pub i : ℕ
    pub j : ℕ
    pub f : Placed
    pub g : Placed
    pub f_at : slice_get items i ≡ Some f
    pub g_at : slice_get items j ≡ Some g
    pub apart : i ≢ j
    pub fails : test f g ≡ false

  pub failing : SomePairFails (passes_at test items) (length (map box_of items)) → HasFailing
  failing some = by (slice_get items some.0) (slice_get items some.1) refl refl
    where
      by : (o p : Option Placed) → slice_get items some.0 ≡ o → slice_get items some.1 ≡ p → HasFailing
      by (Some f) (Some g) at_f at_g = record {
        i = some.0;
        j = some.1;
        f = f;
        g = g;
        f_at = at_f;
        g_at = at_g;
        apart = some.2;
        fails = sym (λ k. both_pass test (at_f k) (at_g k)) ∙ some.3;
      }
      by (Some f) None at_f at_g = absurd (true≢false (sym (λ k. both_pass test (at_f k) (at_g k)) ∙ some.3))
      by None p at_f at_g = absurd (true≢false (sym (λ k. both_pass test (at_f k) (at_g k)) ∙ some.3))
