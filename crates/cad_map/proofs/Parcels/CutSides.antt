-- A ring cut by a chain: where its places are, where the sides of the two rings come from, and how long these are.
use Rattle.std.proofs.Common.{◌≡◌, ℕ, suc, ◌+◌, ◌≤◌, ◌<◌, ◌⊎◌, inl, inr, refl, sym, ap, subst, ◌∙◌, List, [], ◌∷◌, ◌++◌, length, map, reverse, filter, Bool, true, false, cond, not, true≢false, arith}
use Rattle.std.specs.Prelude.{IsPermutation, count_by, nat_lt, slice_index}
use Rattle.std.specs.List.{Contains, position_or_len}
use Rattle.std.proofs.lemmas.Bool.Decides.{nat_tests}
use Rattle.std.proofs.lemmas.List.{append-nil, length-append, length-reverse}
use Rattle.std.proofs.lemmas.List.Concat.{flat_map-append}
use Rattle.std.proofs.lemmas.List.Elements.{Contains-append_cases, Contains-append_left, Contains-append_right}
use Rattle.std.proofs.lemmas.List.Sums.{sum_by-append}
use Rattle.std.proofs.lemmas.List.Sorted.{IsPermutation-sym, IsPermutation-reverse, Contains-permutation}
use Rattle.cad_rings.specs.Cycle.{Ring, Side, is_side, has_side, opposite, sides_along, sides_of, turned}
use Rattle.cad_rings.specs.Surgery.{left_ring, right_ring, chain_across, AreTwoPlaces, sides_of_chain}
use Rattle.cad_rings.proofs.CallerLemmas.{cut, is_side-same, length-sides_of, sides_along-append, sides_along-reverse, sides_of_chain-is, sides_of-same, IsSameRing-turned, permuted_as, laid, shuffled}
use Rattle.cad_map.specs.declared.boundary.Boundary.{Boundary}
use Rattle.cad_map.specs.Boundaries.{sides_in}
use Rattle.cad_map.specs.Division.{place_of, ring_with}
use Rattle.cad_map.proofs.Lists.Elements.{Contains-cases, Contains-first, Contains-flat_map, count-some}
use Rattle.cad_map.proofs.Lists.ElementFacts.{map-Contains}
use Rattle.cad_map.proofs.Walks.AlongRing.{is_side-refl}
use Rattle.cad_map.proofs.Boundaries.FacesBeside.{has_side-Contains, Contains-has_side}

-- ---- The place of a side

-- the place is one of the ring's, and its point is the one that the side leaves
pub record IsPlaceOf (s : Side) (i : ℕ) (ring : Ring) : Type 0 where
  pub within : i < length ring
  pub at : slice_index ring i ≡ s.0

place-along : (s : Side) (a : ℕ) (points : List ℕ) (z : ℕ) → has_side s (sides_along a points z) ≡ true → IsPlaceOf s (position_or_len (is_side s) (sides_along a points z)) (a ∷ points)
place-along s a [] z has = by (is_side s (a, z)) refl
  where
    by : (b : Bool) → is_side s (a, z) ≡ b → IsPlaceOf s (position_or_len (is_side s) ((a, z) ∷ [])) (a ∷ [])
    by true is = rw is (record { within = omega arith; at = ap (λ (t : Side). t.0) (sym (is_side-same s (a, z) is)) })
    by false is = absurd (true≢false (sym (rw is at has)))
place-along s a (x ∷ points) z has = by (is_side s (a, x)) refl (λ rest. place-along s x points z rest)
  where
    by : (b : Bool) → is_side s (a, x) ≡ b → (has_side s (sides_along x points z) ≡ true → IsPlaceOf s (position_or_len (is_side s) (sides_along x points z)) (x ∷ points))
        → IsPlaceOf s (position_or_len (is_side s) ((a, x) ∷ sides_along x points z)) (a ∷ x ∷ points)
    by true is again = rw is (record { within = omega arith; at = ap (λ (t : Side). t.0) (sym (is_side-same s (a, x) is)) })
    by false is again =
        let k = again (rw is at has) in
        let n = position_or_len (is_side s) (sides_along x points z) in
        let next : 1 + n ≡ suc n = omega arith in
        rw is (rw next (record { within = let low = k.within in omega (arith, low); at = k.at }))

-- a side of a ring leads from its place
pub place-of : (s : Side) (ring : Ring) → has_side s (sides_of ring) ≡ true → IsPlaceOf s (place_of s ring) ring
place-of s [] has = absurd (true≢false (sym has))
place-of s (a ∷ points) has =
    let k = place-along s a points a has in
    let n = position_or_len (is_side s) (sides_along a points a) in
    let long = length-sides_of (a ∷ points) in
    let low = k.within in
    let found : nat_lt n (length (sides_along a points a)) ≡ true = grind (arith, nat_tests, low, long) in
    rw found k

-- ---- The ring with a side

-- among these rings the side is in one alone: that one and the others
pub record IsOnlyIn (s : Side) (bs : List Boundary) (b : Boundary) : Type 0 where
  pub front : List Boundary
  pub back : List Boundary
  pub whole : bs ≡ front ++ b ∷ back
  pub others : filter (λ c. not (has_side s (sides_of c.ring))) bs ≡ front ++ back
  pub ring : ring_with s bs ≡ b.ring

-- where no ring has the side, none is taken out
none_out : (s : Side) (bs : List Boundary) → count_by (is_side s) (sides_in bs) ≡ 0 → filter (λ c. not (has_side s (sides_of c.ring))) bs ≡ bs
none_out s [] none = refl
none_out s (c ∷ bs) none = by (has_side s (sides_of c.ring)) refl (λ rest. none_out s bs rest)
  where
    split : count_by (is_side s) (sides_in (c ∷ bs)) ≡ count_by (is_side s) (sides_of c.ring) + count_by (is_side s) (sides_in bs)
    split = sum_by-append (λ (t : Side). cond (is_side s t) 1 0) (sides_of c.ring) (sides_in bs)

    by : (t : Bool) → has_side s (sides_of c.ring) ≡ t → (count_by (is_side s) (sides_in bs) ≡ 0 → filter (λ c. not (has_side s (sides_of c.ring))) bs ≡ bs)
        → filter (λ c. not (has_side s (sides_of c.ring))) (c ∷ bs) ≡ c ∷ bs
    by true is again = let some = count-some (is_side s) (sides_of c.ring) s (has_side-Contains s (sides_of c.ring) is) (is_side-refl s) in absurd (omega (arith, split, some, none))
    by false is again = rw is (ap (λ (cs : List Boundary). c ∷ cs) (again (omega (arith, split, none))))

pub only-in : (s : Side) (bs : List Boundary) (b : Boundary) → Contains bs b → Contains (sides_of b.ring) s → count_by (is_side s) (sides_in bs) ≤ 1 → IsOnlyIn s bs b
only-in s [] b there has once = let low = there.1 in absurd (omega arith)
only-in s (c ∷ bs) b there has once = by (has_side s (sides_of c.ring)) refl (Contains-cases c bs b there) (λ later few. only-in s bs b later has few)
  where
    split : count_by (is_side s) (sides_in (c ∷ bs)) ≡ count_by (is_side s) (sides_of c.ring) + count_by (is_side s) (sides_in bs)
    split = sum_by-append (λ (t : Side). cond (is_side s t) 1 0) (sides_of c.ring) (sides_in bs)

    by : (t : Bool) → has_side s (sides_of c.ring) ≡ t → (c ≡ b) ⊎ Contains bs b → (Contains bs b → count_by (is_side s) (sides_in bs) ≤ 1 → IsOnlyIn s bs b) → IsOnlyIn s (c ∷ bs) b
    by true is (inl same) again =
        let here = count-some (is_side s) (sides_of c.ring) s (has_side-Contains s (sides_of c.ring) is) (is_side-refl s) in
        record {
          front = [];
          back = bs;
          whole = ap (λ (d : Boundary). d ∷ bs) same;
          others = rw is (none_out s bs (omega (arith, split, once, here)));
          ring = rw is (ap (λ (d : Boundary). d.ring) same);
        }
    by true is (inr later) again =
        let here = count-some (is_side s) (sides_of c.ring) s (has_side-Contains s (sides_of c.ring) is) (is_side-refl s) in
        let too = count-some (is_side s) (sides_in bs) s (Contains-flat_map (λ b. sides_of b.ring) bs b s later has) (is_side-refl s) in
        absurd (omega (arith, split, once, here, too))
    by false is (inl same) again = absurd (true≢false (sym (Contains-has_side s (sides_of b.ring) has) ∙ ap (λ (d : Boundary). has_side s (sides_of d.ring)) (sym same) ∙ is))
    by false is (inr later) again =
        let k = again later (omega (arith, split, once)) in
        record {
          front = c ∷ k.front;
          back = k.back;
          whole = ap (λ (cs : List Boundary). c ∷ cs) k.whole;
          others = rw is (ap (λ (cs : List Boundary). c ∷ cs) k.others);
          ring = rw is k.ring;
        }

-- the sides of a ring among others, and those of the others
pub sides-among : (front : List Boundary) (b : Boundary) (back : List Boundary) → IsPermutation (sides_in (front ++ b ∷ back)) (sides_of b.ring ++ sides_in (front ++ back))
sides-among front b back =
    let part : Boundary → List Side = λ b. sides_of b.ring in
    let F = sides_in front in
    let S = sides_of b.ring in
    let B = sides_in back in
    let pieces = F ∷ S ∷ B ∷ [] in
    permuted_as (sides_in (front ++ b ∷ back)) (laid pieces (0 ∷ 1 ∷ 2 ∷ [])) (S ++ sides_in (front ++ back)) (laid pieces (1 ∷ 0 ∷ 2 ∷ []))
    (flat_map-append part front (b ∷ back) ∙ ap (λ (l : List Side). F ++ (S ++ l)) (sym (append-nil B))) (ap (λ (l : List Side). S ++ l) (flat_map-append part front back ∙ ap (λ (l : List Side). F ++ l) (sym (append-nil B))))
    (shuffled pieces (0 ∷ 1 ∷ 2 ∷ []) (1 ∷ 0 ∷ 2 ∷ []) refl)

-- ---- The two rings of a cut

-- a ring of a chain's two ends and of two lists of points, of which one has a point, has three points or more
long-enough : (xs ys : List ℕ) (n : ℕ) → n ≡ length xs + length ys + 2 → (xs ≡ [] → ys ≡ [] → ⊥) → 3 ≤ n
long-enough [] [] n is some = absurd (some refl refl)
long-enough (x ∷ xs) ys n is some = omega arith
long-enough [] (y ∷ ys) n is some = omega arith

module _ (i j : ℕ) (inner : List ℕ) (ring : Ring) (two : AreTwoPlaces i j ring) where
  abbrev a : ℕ
  a = slice_index ring i

  abbrev z : ℕ
  z = slice_index ring j

  abbrev chain : List Side
  chain = sides_of_chain (chain_across i j inner ring)

  -- a side of either stretch is one of the ring
  in_first : (s : Side) → Contains (sides_along a (cut i j inner ring two).xs z) s → Contains (sides_of ring) s
  in_first s h =
      let k = cut i j inner ring two in
      Contains-permutation (sides_of (turned i ring)) (sides_of ring) s (IsPermutation-sym (sides_of ring) (sides_of (turned i ring)) (sides_of-same ring (turned i ring) (IsSameRing-turned i ring)))
      (subst (λ (l : List Side). Contains l s) (sym (ap sides_of k.round ∙ sides_along-append a k.xs z k.ys a)) (Contains-append_left (sides_along a k.xs z) (sides_along z k.ys a) s h))

  in_second : (s : Side) → Contains (sides_along z (cut i j inner ring two).ys a) s → Contains (sides_of ring) s
  in_second s h =
      let k = cut i j inner ring two in
      Contains-permutation (sides_of (turned i ring)) (sides_of ring) s (IsPermutation-sym (sides_of ring) (sides_of (turned i ring)) (sides_of-same ring (turned i ring) (IsSameRing-turned i ring)))
      (subst (λ (l : List Side). Contains l s) (sym (ap sides_of k.round ∙ sides_along-append a k.xs z k.ys a)) (Contains-append_right (sides_along a k.xs z) (sides_along z k.ys a) s h))

  -- left of the chain are its sides and sides of the ring
  pub left-sides : (s : Side) → Contains (sides_of (left_ring i j inner ring)) s → Contains chain s ⊎ Contains (sides_of ring) s
  left-sides s h =
      let k = cut i j inner ring two in
      elim (Contains-append_cases (sides_along a inner z) (sides_along z k.ys a) s (subst (λ (l : List Side). Contains l s) (ap sides_of k.left ∙ sides_along-append a inner z k.ys a) h)) [
        | inl c ↦ inl (subst (λ (l : List Side). Contains l s) (sym (sides_of_chain-is a inner z)) c)
        | inr o ↦ inr (in_second s o)
      ]

  -- right of it are the opposites of its sides, and sides of the ring
  pub right-sides : (s : Side) → Contains (sides_of (right_ring i j inner ring)) s → Contains chain (opposite s) ⊎ Contains (sides_of ring) s
  right-sides s h =
      let k = cut i j inner ring two in
      elim (Contains-append_cases (sides_along z (reverse inner) a) (sides_along a k.xs z) s (subst (λ (l : List Side). Contains l s) (ap sides_of k.right ∙ sides_along-append z (reverse inner) a k.xs z) h)) [
        | inl c ↦ inl (back (subst (λ (l : List Side). Contains l s) (sides_along-reverse a inner z) c))
        | inr o ↦ inr (in_first s o)
      ]
    where
      back : Contains (reverse (map opposite (sides_along a inner z))) s → Contains chain (opposite s)
      back c =
          let M = map opposite (sides_along a inner z) in
          let one = map-Contains opposite (sides_along a inner z) s (Contains-permutation (reverse M) M s (IsPermutation-sym M (reverse M) (IsPermutation-reverse M)) c) in
          subst (λ (l : List Side). Contains l (opposite s)) (sym (sides_of_chain-is a inner z)) (subst (Contains (sides_along a inner z)) (ap opposite one.2) one.1)

  -- three points or more are left of the chain, where it has inner points or the ring has no side from its end to its start
  pub left-long : (inner ≡ [] → Contains (sides_of ring) (z, a) → ⊥) → 3 ≤ length (left_ring i j inner ring)
  left-long new =
      let k = cut i j inner ring two in
      let e = ap length k.left in
      let d = length-append inner (z ∷ k.ys) in
      long-enough inner k.ys _ (omega (arith, e, d))
      (λ none rest. new none (in_second (z, a) (subst (λ (l : List ℕ). Contains (sides_along z l a) (z, a)) (sym rest) (Contains-first (z, a) []))))

  -- and so many right of it, where the ring has no side from its start to its end
  pub right-long : (inner ≡ [] → Contains (sides_of ring) (a, z) → ⊥) → 3 ≤ length (right_ring i j inner ring)
  right-long new =
      let k = cut i j inner ring two in
      let e = ap length k.right in
      let d = length-append (reverse inner) (a ∷ k.xs) in
      let r = length-reverse inner in
      long-enough inner k.xs _ (omega (arith, e, d, r))
      (λ none rest. new none (in_first (a, z) (subst (λ (l : List ℕ). Contains (sides_along a l z) (a, z)) (sym rest) (Contains-first (a, z) []))))
