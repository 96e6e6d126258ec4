-- Rings that are followed to see where they turn, and places that are looked for among others.
use Rattle.std.proofs.Common.{◌≡◌, ◌∙◌, inl, inr, refl, sym, ap, subst, ℕ, ◌+◌, ◌<◌, ◌≤◌, Bool, true, false, not, ◌&&◌, true≢false, List, [], ◌∷◌, ◌++◌, length, drop, filter, get_or, append_assoc, append-nil, length-append, arith, if◌then◌else◌}
use Rattle.std.specs.Prelude.{Result, Ok, Err, is_ok}
use Rattle.std.specs.Bool.{Decides}
use Rattle.std.specs.List.{list_all, list_any}
use Rattle.std.specs.List.Sorted.{IsBinarySearchResult, IsPermutation, IsSearchInRange}
use Rattle.std.specs.Ordering.{int_cmp, int_eq, ordering_then}
use Rattle.std.specs.declared.cmp.Ordering.{Ordering}
use Rattle.std.specs.declared.cmp.Ordering.TheVariants.{Less, Equal, Greater}
use Rattle.std.specs.Cmp.{IsTotalOrder}
use Rattle.std.proofs.lemmas.Bool.{cases_lt}
use Rattle.std.proofs.lemmas.Bool.Decides.{Decides-int_eq}
use Rattle.std.proofs.lemmas.Cmp.{int_cmp_total, int_ranked, on_total, then_total, tied_itself}
use Rattle.std.proofs.lemmas.List.{drop_all, drop_more}
use Rattle.std.proofs.lemmas.List.Sorted.{list_any-IsPermutation, searchable_from_sorted}
use Rattle.geo_exact.specs.Position.{Position}
use Rattle.cad_rings.specs.Cycle.{Corner, Ring, corners_along, turned}
use Rattle.cad_map.specs.Map.{Map, position_of}
use Rattle.cad_map.specs.Valid.{is_same_position}
use Rattle.cad_map.proofs.CallerLemmas.{list_all-IsPermutation, list_all-from, list_all-same, list_any-Contains, list_any-found}
use Rattle.cad_views.specs.Land.{AreInOrder, apart_from, are_same_places, is_among, is_turn, turns_among, turns_at, turns_round}

-- ---- A ring that is followed

-- it was followed up to a place: to go on are the corners after two points
pub record IsFollowed (m : Map) (ring : Ring) (place : ℕ) (before at : Position) (old new : List Position) : Type 0 where
  pub first : ℕ
  pub second : ℕ
  pub before_is : before ≡ position_of m first
  pub at_is : at ≡ position_of m second
  pub is : new ++ turns_among m (corners_along first second (drop place (turned 2 ring))) ≡ old ++ turns_round m ring

length-turned : (ring : Ring) → 2 ≤ length ring → length (turned 2 ring) ≡ length ring
length-turned [] two = absurd (omega arith)
length-turned (a ∷ []) two = absurd (omega arith)
length-turned (a ∷ b ∷ points) two = length-append points (a ∷ b ∷ []) ∙ omega arith

module _ (m : Map) where
  pub followed-first : (ring : Ring) (a b : ℕ) (before at : Position) (old : List Position) → 2 ≤ length ring → a ≡ get_or ring 0 a → b ≡ get_or ring 1 b → before ≡ position_of m a → at ≡ position_of m b → IsFollowed m ring 0 before at old old
  followed-first [] a b before at old two first second before_is at_is = absurd (omega arith)
  followed-first (p ∷ []) a b before at old two first second before_is at_is = absurd (omega arith)
  followed-first (p ∷ q ∷ points) a b before at old two first second before_is at_is = record {
    first = p;
    second = q;
    before_is = before_is ∙ ap (position_of m) first;
    at_is = at_is ∙ ap (position_of m) second;
    is = unfold turns_round in refl;
  }

  among-next : (c : Corner) (corners : List Corner) → turns_among m (c ∷ corners) ≡ (if turns_at m c then position_of m c.at ∷ turns_among m corners else turns_among m corners)
  among-next c corners = by (turns_at m c) refl
    where
      by : (t : Bool) → turns_at m c ≡ t → turns_among m (c ∷ corners) ≡ (if turns_at m c then position_of m c.at ∷ turns_among m corners else turns_among m corners)
      by true is = rw is refl
      by false is = rw is refl

  put-last : (t : Bool) (at : Position) (new rest : List Position) → (new ++ (if t then at ∷ [] else [])) ++ rest ≡ new ++ (if t then at ∷ rest else rest)
  put-last true at new rest = append_assoc new (at ∷ []) rest
  put-last false at new rest = ap (λ (l : List Position). l ++ rest) (append-nil new)

  pub followed-next : (ring : Ring) (place c : ℕ) (before at after : Position) (old new next : List Position) → 2 ≤ length ring → place < length ring → IsFollowed m ring place before at old new
      → c ≡ get_or (turned 2 ring) place 0 → after ≡ position_of m c → next ≡ new ++ (if is_turn before at after then at ∷ [] else []) → IsFollowed m ring (place + 1) at after old next
  followed-next ring place c before at after old new next two within so_far c_is after_is next_is = record {
    first = so_far.second;
    second = c;
    before_is = so_far.at_is;
    at_is = after_is;
    is = go;
  }
    where
      rest : List ℕ
      rest = turned 2 ring

      later : List Position
      later = turns_among m (corners_along so_far.second c (drop (place + 1) rest))

      corner : Corner
      corner = record { before = so_far.first; at = so_far.second; after = c }

      drawn : drop place rest ≡ c ∷ drop (place + 1) rest
      drawn = drop_more rest place 0 (let long = length-turned ring two in omega arith) ∙ ap (λ (n : ℕ). n ∷ drop (place + 1) rest) (sym c_is)

      turn : is_turn before at after ≡ turns_at m corner
      turn = λ i. is_turn (so_far.before_is i) (so_far.at_is i) (after_is i)

      go : next ++ later ≡ old ++ turns_round m ring
      go =
          ap (λ (l : List Position). l ++ later) next_is ∙ put-last (is_turn before at after) at new later
          ∙ (λ i. new ++ (if turn i then so_far.at_is i ∷ later else later))
          ∙ ap (λ (l : List Position). new ++ l) (sym (among-next corner (corners_along so_far.second c (drop (place + 1) rest))))
          ∙ ap (λ (l : List ℕ). new ++ turns_among m (corners_along so_far.first so_far.second l)) (sym drawn)
          ∙ so_far.is

  pub followed-last : (ring : Ring) (place : ℕ) (before at : Position) (old new : List Position) → 2 ≤ length ring → length ring ≤ place → IsFollowed m ring place before at old new → new ≡ old ++ turns_round m ring
  followed-last ring place before at old new two past so_far =
      let none : drop place (turned 2 ring) ≡ [] = drop_all place (turned 2 ring) (let long = length-turned ring two in omega arith) in
      sym (append-nil new) ∙ ap (λ (l : List ℕ). new ++ turns_among m (corners_along so_far.first so_far.second l)) (sym none) ∙ so_far.is

-- ---- A place that is looked for

-- how one place stands to another
abbrev along : Position → Position → Ordering
along a b = ordering_then (int_cmp a.x b.x) (int_cmp a.y b.y)

along-total : IsTotalOrder along
along-total = then_total (on_total (λ (a : Position). a.x) int_cmp_total) (on_total (λ (a : Position). a.y) int_cmp_total)

both-equal : (o q : Ordering) → ordering_then o q ≡ Equal → (o ≡ Equal) × (q ≡ Equal)
both-equal Less q e = absurd (cc)
both-equal Equal q e = (refl, e)
both-equal Greater q e = absurd (cc)

along-same : (a b : Position) → along a b ≡ Equal → a ≡ b
along-same a b e =
    let both = both-equal (int_cmp a.x b.x) (int_cmp a.y b.y) e in
    let x : a.x ≡ b.x = int_ranked a.x b.x Equal (sym both.0) in
    let y : a.y ≡ b.y = int_ranked a.y b.y Equal (sym both.1) in
    λ i. record { x = x i; y = y i }

and-both : (s t : Bool) → s ≡ true → t ≡ true → (s && t) ≡ true
and-both s t a b = rw (a, b) refl

and-first : (s t : Bool) → (s && t) ≡ true → s ≡ true
and-first true t e = refl
and-first false t e = e

and-second : (s t : Bool) → (s && t) ≡ true → t ≡ true
and-second true t e = e
and-second false t e = absurd (true≢false (sym e))

itself : (a : Position) → is_same_position a a ≡ true
itself a = and-both (int_eq a.x a.x) (int_eq a.y a.y) ((Decides-int_eq a.x a.x).1 refl) ((Decides-int_eq a.y a.y).1 refl)

same-place : (a b : Position) → is_same_position a b ≡ true → a ≡ b
same-place a b e =
    let x : a.x ≡ b.x = (Decides-int_eq a.x b.x).0 (and-first (int_eq a.x b.x) (int_eq a.y b.y) e) in
    let y : a.y ≡ b.y = (Decides-int_eq a.y b.y).0 (and-second (int_eq a.x b.x) (int_eq a.y b.y) e) in
    λ i. record { x = x i; y = y i }

pub same-Decides : (a b : Position) → Decides (is_same_position a b) (a ≡ b)
same-Decides a b = (same-place a b, λ e. ap (is_same_position a) (sym e) ∙ itself a)

pub so_false : (b : Bool) → (b ≡ true → ⊥) → b ≡ false
so_false true never = absurd (never refl)
so_false false never = refl

-- a search among places in order finds a place just where it is one of them
pub searched : (places : List Position) (a : Position) (r : Result ℕ ℕ) → AreInOrder places → IsSearchInRange r (length places) → IsBinarySearchResult (λ b. along b a) places r → is_ok r ≡ is_among places a
unfolding is_among
searched places a (Ok i) up within found =
    let here : get_or places i a ≡ a = along-same (get_or places i a) a (found a) in
    sym (list_any-Contains (is_same_position a) places a (i, within, here) (itself a))
searched places a (Err i) up within found = sym (so_false (list_any (is_same_position a) places) never)
  where
    never : list_any (is_same_position a) places ≡ true → ⊥
    never any =
        let parted = found (searchable_from_sorted along-total (λ (b : Position). b) places a up) in
        let there = list_any-found (is_same_position a) places any in
        let b = there.0 in
        let k = there.1.0 in
        let low = there.1.1 in
        let read : get_or places k b ≡ b = there.1.2 in
        let tie : along (get_or places k b) a ≡ Equal = subst (λ (c : Position). along (get_or places k b) c ≡ Equal) (read ∙ sym (same-place a b there.2)) (tied_itself along-total (get_or places k b)) in
        elim (cases_lt k i) [
          | inl less ↦ let e : Less ≡ Equal = sym (parted.0 k b (omega arith) less) ∙ tie in absurd (cc)
          | inr more ↦ let e : Greater ≡ Equal = sym (parted.1 k b more low) ∙ tie in absurd (cc)
        ]

-- ---- Places in another order

among-permuted : (places others : List Position) → IsPermutation places others → (a : Position) → is_among others a ≡ is_among places a
unfolding is_among
among-permuted places others h a = sym (list_any-IsPermutation (is_same_position a) places others h)

all-permuted : (was is was' is' : List Position) → IsPermutation was was' → IsPermutation is is' → list_all (is_among is') was' ≡ list_all (is_among is) was
all-permuted was is was' is' h k =
    sym (list_all-IsPermutation (is_among is') was was' h) ∙ list_all-same (is_among is') (is_among is) was (λ a there. among-permuted is is' k a)

pub same-permuted : (was is was' is' : List Position) → IsPermutation was was' → IsPermutation is is' → (list_all (is_among is') was' && list_all (is_among was') is') ≡ are_same_places was is
unfolding are_same_places
same-permuted was is was' is' h k = λ i. all-permuted was is was' is' h k i && all-permuted is was is' was' k h i

pub apart-permuted : (others others' these : List Position) → IsPermutation others others' → apart_from others' these ≡ apart_from others these
unfolding apart_from
apart-permuted others others' these h = λ i. filter (λ a. not (among-permuted others others' h a i)) these

each-itself : (places : List Position) → list_all (is_among places) places ≡ true
unfolding is_among
each-itself places = list_all-from (is_among places) places (λ a there. list_any-Contains (is_same_position a) places a there (itself a))

pub same-itself : (places : List Position) → are_same_places places places ≡ true
unfolding are_same_places
same-itself places = and-both (list_all (is_among places) places) (list_all (is_among places) places) (each-itself places) (each-itself places)
