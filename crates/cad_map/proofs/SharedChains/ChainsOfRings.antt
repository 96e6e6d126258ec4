-- Two rings have a shared chain exactly where the one comes back along sides of the other.
use Rattle.std.proofs.Common.{◌≡◌, ◌≢◌, ℕ, zero, suc, ◌+◌, ◌-◌, add-one, ◌<◌, ◌≤◌, inl, inr, refl, sym, ap, subst, ◌∙◌, List, [], ◌∷◌, ◌++◌, length, take, map, reverse, Bool, true, false, arith, Some}
use Rattle.std.proofs.lemmas.Bool.{and_parts, and_from, eqb-true, cases_lt}
use Rattle.std.proofs.lemmas.Bool.Decides.{nat_tests}
use Rattle.std.proofs.lemmas.Cmp.{nat_eq_equiv}
use Rattle.std.proofs.lemmas.List.{reverse-append, reverse-reverse, take_all, length-append}
use Rattle.std.proofs.lemmas.List.Sorted.{IsPermutation-reverse, Contains-permutation}
use Rattle.std.proofs.lemmas.Slice.Eq.{bytes_eq-Decides}
use Rattle.std.specs.Prelude.{◌==◌, nat_lt, IsTrue, ◌↔◌}
use Rattle.std.specs.List.{Contains}
use Rattle.std.specs.Str.{bytes_eq as is_same_list}
use Rattle.cad_rings.specs.Cycle.{Ring, Side, opposite, sides_of, corner_back, corners_of, turned, IsSameRing}
use Rattle.cad_rings.specs.Canonical.{least_rotation}
use Rattle.cad_rings.proofs.CallerLemmas.{IsSameRing-append, IsSameRing-sym, IsSameRing-trans, IsSameRing-turned, IsSameRing-reversed, IsSameRing-from_least_rotation, least_rotation-same, length-turned, corners_of-same, corners_of-reversed}
use Rattle.cad_map.specs.Chain.{are_distinct}
use Rattle.cad_map.specs.Valid.{EachPair}
use Rattle.cad_map.specs.Walk.{first_side}
use Rattle.cad_map.specs.Merger.{is_along, is_around}
use Rattle.cad_map.specs.Steps.{steps, turns_back, runs_back}
use Rattle.cad_map.proofs.Lists.Elements.{Contains-map, All-at_each}
use Rattle.cad_map.proofs.Lists.ElementFacts.{list_any-none}
use Rattle.cad_map.proofs.Parcels.ChainFacts.{pairs-from_distinct}
use Rattle.cad_map.proofs.Ends.Parallel.{pairs-IsPermutation}
use Rattle.cad_map.proofs.SharedChains.FoundChains.{BeginAlong, along-passed, around-back}
use Rattle.cad_map.proofs.Walks.AlongRing.{side_behind}
use Rattle.cad_map.proofs.SharedChains.Steps.{points_along, steps-add, runs_back-later, steps-back, points_along-back, runs_back-from}
use Rattle.cad_map.proofs.SharedChains.StepsOfRings.{IsWalked, walked-same, side-same, side-place, has_first, points_along-round, points_along-ring, steps-round, round-least, distinct-short, corner-after, next-there, steps-there}

-- ---- Numbers none of which stands twice, in the other order

pub distinct-from_pairs : (xs : List ℕ) → EachPair (λ a b. a ≢ b) xs → are_distinct xs ≡ true
distinct-from_pairs [] pairs = refl
distinct-from_pairs (x ∷ xs) pairs = rw (list_any-none (λ y. x == y) xs other) (distinct-from_pairs xs pairs.1)
  where
    other : (y : ℕ) → Contains xs y → (x == y) ≡ false
    other y there = by (x == y) refl
      where
        by : (b : Bool) → (x == y) ≡ b → b ≡ false
        by true is = absurd (All-at_each (λ z. x ≢ z) xs y pairs.0 there (eqb-true x y is))
        by false is = refl

distinct-reversed : (xs : List ℕ) → are_distinct xs ≡ true → are_distinct (reverse xs) ≡ true
distinct-reversed xs distinct =
    distinct-from_pairs (reverse xs) (pairs-IsPermutation (λ (a b : ℕ). a == b) same xs (reverse xs) (IsPermutation-reverse xs) (pairs-from_distinct xs distinct))
  where
    same : (a b : ℕ) → IsTrue (a == b) ↔ (a ≡ b)
    same a b = (eqb-true a b, λ e. ap (λ (c : ℕ). a == c) (sym e) ∙ nat_eq_equiv.refl a)

-- ---- What the tests of shared chains say

along-passes : (n : ℕ) (kept ended : Ring) → BeginAlong n kept ended → is_along n kept ended ≡ true
along-passes n kept ended it =
    let first = it.some in
    let second = it.more_in_kept in
    let third = it.more_in_ended in
    let a : nat_lt 0 n ≡ true = grind (arith, nat_tests, first) in
    let b : is_same_list (take (n + 1) kept) (reverse (take (n + 1) ended)) ≡ true =
    (bytes_eq-Decides (take (n + 1) kept) (reverse (take (n + 1) ended))).1 (rw (add-one n) it.common) in
    let c : are_distinct (take (n + 1) kept) ≡ true = rw (add-one n) it.distinct in
    let d : nat_lt n (length kept) ≡ true = grind (arith, nat_tests, second) in
    let e : nat_lt n (length ended) ≡ true = grind (arith, nat_tests, third) in
    rw (a, b, c, d, e) refl

module _ (next : Side → Side) (joins : (s : Side) → (next s).0 ≡ s.1) (k e : Ring) (k_walked : IsWalked next k) (e_walked : IsWalked next e) where
  turned-walked : (r : Ring) (i : ℕ) → IsWalked next r → IsWalked next (turned i r)
  turned-walked r i walked = walked-same next r (turned i r) (IsSameRing-turned i r) walked

  -- ---- Along a chain

  -- Where the ended ring comes back along a chain of suc n sides, whose points differ, the rings begin along it.
  pub along-found : (n : ℕ) (s : Side) → Contains (sides_of k) s → Contains (sides_of e) (opposite (steps next n s)) → runs_back next s n ≡ true → are_distinct (points_along next s (suc n)) ≡ true
      → (i : ℕ) × (j : ℕ) × (i < length k) × (j < length e) × (is_along (suc n) (turned i k) (turned j e) ≡ true)
      × (first_side (turned i k) ≡ Some s) × (first_side (turned j e) ≡ Some (opposite (steps next n s)))
  along-found n s there back runs distinct =
      let t = opposite (steps next n s) in
      let at = side-place k s there in
      let from = side-place e t back in
      let K = turned at.0 k in
      let E = turned from.0 e in
      let reversed_is = points_along-back next joins n s runs in
      let t_distinct : are_distinct (points_along next t (suc n)) ≡ true = ap are_distinct reversed_is ∙ distinct-reversed (points_along next s (suc n)) distinct in
      let kw = turned-walked k at.0 k_walked in
      let ew = turned-walked e from.0 e_walked in
      let k_more = distinct-short next joins K s kw at.2 (suc n) distinct in
      let e_more = distinct-short next joins E t ew from.2 (suc n) t_distinct in
      let k_is = points_along-ring next joins K s kw at.2 (suc n) k_more in
      let e_is = points_along-ring next joins E t ew from.2 (suc n) e_more in (
        at.0,
        from.0,
        at.1,
        from.1,
        along-passes (suc n) K E (record {
          some = omega arith;
          common = sym k_is ∙ sym (reverse-reverse (points_along next s (suc n))) ∙ ap reverse (sym reversed_is ∙ e_is);
          distinct = ap are_distinct (sym k_is) ∙ distinct;
          more_in_kept = k_more;
          more_in_ended = e_more;
        }),
        at.2,
        from.2,
      )

  -- Where they begin along a chain, it begins with a side of the kept ring, and the ended ring comes back along it.
  pub along-back : (n i j : ℕ) → is_along n (turned i k) (turned j e) ≡ true
      → (s : Side) × (0 < n) × Contains (sides_of k) s × Contains (sides_of e) (opposite s) × (runs_back next s (n - 1) ≡ true) × (are_distinct (points_along next s n) ≡ true)
      × (first_side (turned i k) ≡ Some s)
  along-back n i j is =
      let K = turned i k in
      let E = turned j e in
      let it = along-passed n K E is in
      let kw = turned-walked k i k_walked in
      let ew = turned-walked e j e_walked in
      let s = has_first K kw.two in
      let t = has_first E ew.two in
      let k_is = points_along-ring next joins K s.0 kw s.1 n it.more_in_kept in
      let e_is = points_along-ring next joins E t.0 ew t.1 n it.more_in_ended in
      let turned_round : points_along next t.0 n ≡ reverse (points_along next s.0 n) = e_is ∙ sym (reverse-reverse (take (suc n) E)) ∙ ap reverse (sym it.common ∙ sym k_is) in
      let some = it.some in
      let pred : suc (n - 1) ≡ n = omega arith in
      let runs = runs_back-from next joins (n - 1) s.0 t.0 (subst (λ (q : ℕ). points_along next t.0 q ≡ reverse (points_along next s.0 q)) (sym pred) turned_round) in
      let s_there = side-same K k s.0 (IsSameRing-sym k K (IsSameRing-turned i k)) s.2 in
      let t_there = side-same E e t.0 (IsSameRing-sym e E (IsSameRing-turned j e)) t.2 in
      let back = subst (Contains (sides_of e)) runs.1 (steps-there next joins e (n - 1) t.0 e_walked t_there) in
      (s.0, some, s_there, back, runs.0, ap are_distinct k_is ∙ it.distinct, s.1)

  -- ---- Round the whole ring

  -- Where the ended ring comes back along all sides, it has as many.
  as_long : (K E : Ring) (s : Side) → IsWalked next K → IsWalked next E → first_side K ≡ Some s → first_side E ≡ Some (opposite s) → runs_back next s (length K) ≡ true → length E ≡ length K
  as_long K E s kw ew begins comes runs = by (length E) refl
    where
      n : ℕ
      n = length K

      t : Side
      t = opposite s

      round : opposite (steps next n s) ≡ t
      round = ap opposite (steps-round next joins K s kw begins)

      closed : steps next n t ≡ t
      closed = ap (steps next n) (sym round) ∙ steps-back next joins n s runs

      few : (m : ℕ) → n ≡ m → length E ≤ n
      few zero is = let two = kw.two in absurd (omega (arith, two, is))
      few (suc m) is = let h = round-least next joins E t ew comes m (ap (λ (q : ℕ). steps next q t) (sym is) ∙ closed) in omega (arith, h, is)

      -- after q steps back fewer are left of the ring
      sooner : (q m : ℕ) → length E ≡ q → n ≡ m + q → steps next m s ≡ s
      sooner q m is parts =
          let later = runs_back-later next m q s (subst (λ (l : ℕ). runs_back next s l ≡ true) parts runs) in
          let u = steps next m s in
          let whole : steps next q u ≡ steps next n s = steps-add next m q s ∙ ap (λ (l : ℕ). steps next l s) (sym parts) in
          let back : steps next q t ≡ opposite u = ap (steps next q) (sym round ∙ ap opposite (sym whole)) ∙ steps-back next joins q u later in
          let itself : steps next q t ≡ t = ap (λ (l : ℕ). steps next l t) (sym is) ∙ steps-round next joins E t ew comes in
          ap opposite (sym back ∙ itself)

      by : (q : ℕ) → length E ≡ q → length E ≡ n
      by q is = elim (cases_lt q n) [
        | inl less ↦
            let parts : n ≡ suc (n - q - 1) + q = omega arith in
            let h = round-least next joins K s kw begins (n - q - 1) (sooner q (suc (n - q - 1)) is parts) in
            let two = ew.two in
            absurd (omega (arith, h, is, two, less))
        | inr past ↦ let h = few n refl in omega (arith, h, is, past)
      ]

  -- So it is the reverse.
  reversed_is : (K E : Ring) (s : Side) → IsWalked next K → IsWalked next E → first_side K ≡ Some s → first_side E ≡ Some (opposite s) → runs_back next s (length K) ≡ true → IsSameRing (reverse K) E
  reversed_is [] E s kw ew begins comes runs = cc
  reversed_is (a ∷ []) E s kw ew begins comes runs = let two = kw.two in absurd (omega (arith, two))
  reversed_is (a ∷ b ∷ points) E s kw ew begins comes runs =
      let K = a ∷ b ∷ points in
      let first : (a, b) ≡ s = cc in
      let n = length K in
      let long = as_long K E s kw ew begins comes runs in
      let t = opposite s in
      let round : opposite (steps next n s) ≡ t = ap opposite (steps-round next joins K s kw begins) in
      let k_all : points_along next s (suc n) ≡ K ++ s.0 ∷ s.1 ∷ [] =
      points_along-round next joins K s kw begins (suc n) (omega arith) ∙ take_all (suc (suc n)) (K ++ s.0 ∷ s.1 ∷ []) (let l = length-append K (s.0 ∷ s.1 ∷ []) in omega arith) in
      let e_all : points_along next t (suc n) ≡ E ++ s.1 ∷ s.0 ∷ [] =
      points_along-round next joins E t ew comes (suc n) (omega arith) ∙ take_all (suc (suc n)) (E ++ s.1 ∷ s.0 ∷ []) (let l = length-append E (s.1 ∷ s.0 ∷ []) in omega arith) in
      let back : points_along next t (suc n) ≡ reverse (points_along next s (suc n)) = ap (λ (u : Side). points_along next u (suc n)) (sym round) ∙ points_along-back next joins n s runs in
      let turned_round : E ++ s.1 ∷ s.0 ∷ [] ≡ s.1 ∷ s.0 ∷ reverse K = sym e_all ∙ back ∙ ap reverse k_all ∙ reverse-append K (s.0 ∷ s.1 ∷ []) in
      let parts : reverse K ≡ reverse points ++ s.1 ∷ s.0 ∷ [] = reverse-append (a ∷ b ∷ []) points ∙ ap (λ (u : Side). reverse points ++ u.1 ∷ u.0 ∷ []) first in
      let same : E ≡ s.1 ∷ s.0 ∷ reverse points = ends E (s.1 ∷ s.0 ∷ reverse points) s.1 s.0 (turned_round ∙ ap (λ (l : List ℕ). s.1 ∷ s.0 ∷ l) parts) in
      subst (IsSameRing (reverse K)) (sym same) (subst (λ (l : List ℕ). IsSameRing l (s.1 ∷ s.0 ∷ reverse points)) (sym parts) (IsSameRing-append (reverse points) (s.1 ∷ s.0 ∷ [])))
    where
      ends : (xs ys : List ℕ) (x y : ℕ) → xs ++ x ∷ y ∷ [] ≡ ys ++ x ∷ y ∷ [] → xs ≡ ys
      ends xs ys x y same =
          let e : reverse xs ≡ reverse ys = let h : y ∷ x ∷ reverse xs ≡ y ∷ x ∷ reverse ys = sym (reverse-append xs (x ∷ y ∷ [])) ∙ ap reverse same ∙ reverse-append ys (x ∷ y ∷ []) in cc in
          sym (reverse-reverse xs) ∙ ap reverse e ∙ reverse-reverse ys

  pub around-found : (s : Side) → Contains (sides_of k) s → Contains (sides_of e) (opposite s) → runs_back next s (length k) ≡ true → is_around (length k) k e ≡ true
  around-found s there back runs =
      let at = side-place k s there in
      let from = side-place e (opposite s) back in
      let K = turned at.0 k in
      let E = turned from.0 e in
      let same = reversed_is K E s (turned-walked k at.0 k_walked) (turned-walked e from.0 e_walked) at.2 from.2 (subst (λ (l : ℕ). runs_back next s l ≡ true) (sym (length-turned at.0 k)) runs) in
      let all : IsSameRing (reverse k) e =
      IsSameRing-trans (reverse k) (reverse K) e (IsSameRing-reversed k K (IsSameRing-turned at.0 k))
      (IsSameRing-trans (reverse K) E e same (IsSameRing-sym e E (IsSameRing-turned from.0 e))) in
      and_from (length k == length k) (is_same_list (least_rotation (reverse k)) (least_rotation e)) (nat_eq_equiv.refl (length k))
      ((bytes_eq-Decides (least_rotation (reverse k)) (least_rotation e)).1 (least_rotation-same (reverse k) e all))

  -- Where the ended ring is the reverse, it comes back along all sides.
  module _ (n : ℕ) (is : is_around n k e ≡ true) where
    pub around-long : n ≡ length k
    around-long = eqb-true n (length k) (and_parts (n == length k) (is_same_list (least_rotation (reverse k)) (least_rotation e)) is).0

    pub around-beyond : (s : Side) → Contains (sides_of k) s → Contains (sides_of e) (opposite s)
    around-beyond s there = Contains-permutation (map opposite (sides_of k)) (sides_of e) (opposite s) (around-back n k e is) (Contains-map opposite (sides_of k) s there)

    around-turns : (s : Side) → Contains (sides_of k) s → turns_back next s ≡ true
    around-turns s there =
        let found = corner-after next joins k s k_walked there in
        let c = found.0 in
        let same = IsSameRing-from_least_rotation (reverse k) e ((bytes_eq-Decides (least_rotation (reverse k)) (least_rotation e)).0 (and_parts (n == length k) (is_same_list (least_rotation (reverse k)) (least_rotation e)) is).1) in
        let back = Contains-permutation (corners_of (reverse k)) (corners_of e) (corner_back c) (corners_of-same (reverse k) e same)
        (Contains-permutation (map corner_back (corners_of k)) (corners_of (reverse k)) (corner_back c) (corners_of-reversed k) (Contains-map corner_back (corners_of k) c found.1)) in
        let on : next s ≡ side_behind c = ap next (sym found.2) ∙ k_walked.follows c found.1 in
        let returns : next (opposite (next s)) ≡ side_behind (corner_back c) = ap (λ (u : Side). next (opposite u)) on ∙ e_walked.follows (corner_back c) back in
        ap (λ (p : ℕ). p == s.0) (ap (λ (u : Side). u.1) returns ∙ ap (λ (u : Side). u.0) found.2) ∙ nat_eq_equiv.refl s.0

    pub around-back_along : (m : ℕ) (s : Side) → Contains (sides_of k) s → runs_back next s m ≡ true
    around-back_along zero s there = refl
    around-back_along (suc m) s there = and_from (turns_back next s) (runs_back next (next s) m) (around-turns s there) (around-back_along m (next s) (next-there next joins k s k_walked there))
