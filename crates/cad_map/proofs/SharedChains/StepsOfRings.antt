-- Steps along a ring: the points along it are its own, and the steps come round after as many steps as it has sides.
use Rattle.std.proofs.Common.{◌≡◌, ℕ, zero, suc, ◌+◌, ◌<◌, ◌≤◌, inl, inr, refl, sym, ap, subst, ◌∙◌, List, [], ◌∷◌, ◌++◌, length, take, drop, map, true, cond, arith, Some, slice_get}
use Rattle.std.proofs.lemmas.Bool.{cases_lt}
use Rattle.std.proofs.lemmas.List.{take-append-le, length-append}
use Rattle.std.proofs.lemmas.List.Elements.{Contains-append_cases}
use Rattle.std.proofs.lemmas.List.Sorted.{IsPermutation-sym, Contains-permutation, sum_by-IsPermutation}
use Rattle.std.proofs.lemmas.Option.{slice_get-get_or}
use Rattle.std.specs.Prelude.{count_by}
use Rattle.std.specs.List.{Contains}
use Rattle.cad_rings.specs.Cycle.{Ring, Side, is_side, sides_along, sides_of, Corner, corners_along, corners_of, turned, IsSameRing}
use Rattle.cad_rings.proofs.CallerLemmas.{IsSameRing-length, IsSameRing-turned, length-turned, corners_of-same, sides_of-same, sides_of-turned, length-sides_of}
use Rattle.cad_map.specs.Chain.{are_distinct}
use Rattle.cad_map.specs.Walk.{first_side}
use Rattle.cad_map.specs.Steps.{steps}
use Rattle.cad_map.proofs.Lists.Elements.{Contains-cases, Contains-first, Contains-later, Contains-at, count-yes, count-some, Contains-map}
use Rattle.cad_map.proofs.Lists.ElementFacts.{map-Contains}
use Rattle.cad_map.proofs.Lists.EachElement.{drop-at}
use Rattle.cad_map.proofs.Walks.AlongRing.{side_before, side_behind, is_side-refl, sides-before, sides-behind}
use Rattle.cad_map.proofs.SharedChains.Steps.{points_along, step-last, distinct-away}

-- The ring has two points or more, no side stands twice in it, and each is followed by the next.
pub record IsWalked (next : Side → Side) (r : Ring) : Type 0 where
  pub two : 2 ≤ length r
  pub follows : (c : Corner) → Contains (corners_of r) c → next (side_before c) ≡ side_behind c
  pub once : (s : Side) → count_by (is_side s) (sides_of r) ≤ 1

pub walked-same : (next : Side → Side) (r s : Ring) → IsSameRing r s → IsWalked next r → IsWalked next s
walked-same next r s same walked = record {
  two = let e = IsSameRing-length r s same in let two = walked.two in omega (arith, e, two);
  follows = λ c there. walked.follows c (Contains-permutation (corners_of s) (corners_of r) c (IsPermutation-sym (corners_of r) (corners_of s) (corners_of-same r s same)) there);
  once = λ t.
      let e = sum_by-IsPermutation (λ (u : Side). cond (is_side t u) 1 0) (sides_of r) (sides_of s) (sides_of-same r s same) in
      let few = walked.once t in
      omega arith;
}

pub side-same : (r s : Ring) (t : Side) → IsSameRing r s → Contains (sides_of r) t → Contains (sides_of s) t
side-same r s t same there = Contains-permutation (sides_of r) (sides_of s) t (sides_of-same r s same) there

pub first-is : (ring : Ring) (s : Side) (rest : List Side) → sides_of ring ≡ s ∷ rest → first_side ring ≡ Some s
first-is [] s rest is = cc
first-is (a ∷ []) s rest is = let e : (a, a) ≡ s = cc in ap Some e
first-is (a ∷ b ∷ points) s rest is = let e : (a, b) ≡ s = cc in ap Some e

-- a ring written from the place of a side on begins with it
pub side-place : (r : Ring) (s : Side) → Contains (sides_of r) s → (i : ℕ) × (i < length r) × (first_side (turned i r) ≡ Some s)
side-place r s there =
    let i = there.0 in
    let at : slice_get (sides_of r) i ≡ Some s = slice_get-get_or (sides_of r) i s there.1 ∙ ap Some there.2 in
    let sides : sides_of (turned i r) ≡ s ∷ (drop (i + 1) (sides_of r) ++ take i (sides_of r)) = sides_of-turned i r ∙ ap (λ (l : List Side). l ++ take i (sides_of r)) (drop-at (sides_of r) i s at) in
    let e = length-sides_of r in
    let within = there.1 in
    (i, omega (arith, e, within), first-is (turned i r) s (drop (i + 1) (sides_of r) ++ take i (sides_of r)) sides)

-- a ring has a first side
pub has_first : (r : Ring) → 2 ≤ length r → (s : Side) × (first_side r ≡ Some s) × Contains (sides_of r) s
has_first [] two = absurd (omega arith)
has_first (a ∷ []) two = absurd (omega arith)
has_first (a ∷ b ∷ points) two = ((a, b), refl, Contains-first (a, b) (sides_along b points a))

module _ (next : Side → Side) (joins : (s : Side) → (next s).0 ≡ s.1) where
  -- ---- Along points that the steps follow

  points_along-along : (a b : ℕ) (points : List ℕ) → ((c : Corner) → Contains (corners_along a b points) c → next (side_before c) ≡ side_behind c)
      → (n : ℕ) → n ≤ suc (length points) → points_along next (a, b) n ≡ take (suc n) (a ∷ b ∷ points)
  points_along-along a b points follows zero within = refl
  points_along-along a b [] follows (suc zero) within = λ i. a ∷ joins (a, b) i ∷ []
  points_along-along a b [] follows (suc (suc n)) within = absurd (omega arith)
  points_along-along a b (c ∷ points) follows (suc n) within =
      let first : Corner = record { before = a; at = b; after = c } in
      let on = follows first (Contains-first first (corners_along b c points)) in
      ap (λ (s : Side). a ∷ points_along next s n) on
      ∙ ap (λ (l : List ℕ). a ∷ l) (points_along-along b c points (λ d there. follows d (Contains-later first (corners_along b c points) d there)) n (omega arith))

  steps-along : (a b : ℕ) (points : List ℕ) (y z : ℕ) → ((c : Corner) → Contains (corners_along a b (points ++ y ∷ z ∷ [])) c → next (side_before c) ≡ side_behind c)
      → steps next (suc (suc (length points))) (a, b) ≡ (y, z)
  steps-along a b [] y z follows =
      let first : Corner = record { before = a; at = b; after = y } in
      let second : Corner = record { before = b; at = y; after = z } in
      ap next (follows first (Contains-first first (second ∷ []))) ∙ follows second (Contains-later first (second ∷ []) second (Contains-first second []))
  steps-along a b (c ∷ points) y z follows =
      let first : Corner = record { before = a; at = b; after = c } in
      let others = corners_along b c (points ++ y ∷ z ∷ []) in
      ap (λ (s : Side). steps next (suc (suc (length points))) s) (follows first (Contains-first first others))
      ∙ steps-along b c points y z (λ d there. follows d (Contains-later first others d there))

  -- the side after so many steps
  side-along : (a b : ℕ) (points : List ℕ) (z : ℕ) (rest : List ℕ) → ((c : Corner) → Contains (corners_along a b (points ++ z ∷ rest)) c → next (side_before c) ≡ side_behind c)
      → (q : ℕ) → q ≤ suc (length points) → slice_get (sides_along a (b ∷ points) z) q ≡ Some (steps next q (a, b))
  side-along a b points z rest follows zero within = refl
  side-along a b [] z rest follows (suc zero) within =
      let first : Corner = record { before = a; at = b; after = z } in
      ap Some (sym (follows first (Contains-first first (corners_along b z rest))))
  side-along a b [] z rest follows (suc (suc q)) within = absurd (omega arith)
  side-along a b (c ∷ points) z rest follows (suc q) within =
      let first : Corner = record { before = a; at = b; after = c } in
      let others = corners_along b c (points ++ z ∷ rest) in
      side-along b c points z rest (λ d there. follows d (Contains-later first others d there)) q (omega arith)
      ∙ ap (λ (s : Side). Some (steps next q s)) (sym (follows first (Contains-first first others)))

  -- ---- Along a ring

  -- the points along it go on with the first two
  pub points_along-round : (r : Ring) (s : Side) → IsWalked next r → first_side r ≡ Some s → (n : ℕ) → n ≤ suc (length r) → points_along next s n ≡ take (suc n) (r ++ s.0 ∷ s.1 ∷ [])
  points_along-round [] s walked begins n within = cc
  points_along-round (a ∷ []) s walked begins n within = let two = walked.two in absurd (omega (arith, two))
  points_along-round (a ∷ b ∷ points) s walked begins n within =
      let e : (a, b) ≡ s = cc in
      let long = length-append points (a ∷ b ∷ []) in
      subst (λ (t : Side). points_along next t n ≡ take (suc n) (a ∷ b ∷ points ++ t.0 ∷ t.1 ∷ [])) e
      (points_along-along a b (points ++ a ∷ b ∷ []) walked.follows n (omega (arith, long, within)))

  pub points_along-ring : (r : Ring) (s : Side) → IsWalked next r → first_side r ≡ Some s → (n : ℕ) → n < length r → points_along next s n ≡ take (suc n) r
  points_along-ring r s walked begins n within =
      let few : n ≤ suc (length r) = omega arith in
      points_along-round r s walked begins n few ∙ take-append-le (suc n) r (s.0 ∷ s.1 ∷ []) (omega arith)

  pub steps-round : (r : Ring) (s : Side) → IsWalked next r → first_side r ≡ Some s → steps next (length r) s ≡ s
  steps-round [] s walked begins = cc
  steps-round (a ∷ []) s walked begins = let two = walked.two in absurd (omega (arith, two))
  steps-round (a ∷ b ∷ points) s walked begins =
      let e : (a, b) ≡ s = cc in
      subst (λ (t : Side). steps next (suc (suc (length points))) t ≡ t) e (steps-along a b points a b walked.follows)

  -- its sides are those that the steps lead to
  pub side-at : (r : Ring) (s : Side) → IsWalked next r → first_side r ≡ Some s → (q : ℕ) → q < length r → slice_get (sides_of r) q ≡ Some (steps next q s)
  side-at [] s walked begins q within = absurd (omega arith)
  side-at (a ∷ []) s walked begins q within = let two = walked.two in absurd (omega (arith, two))
  side-at (a ∷ b ∷ points) s walked begins q within =
      let e : (a, b) ≡ s = cc in
      side-along a b points a (b ∷ []) walked.follows q (omega arith) ∙ ap (λ (t : Side). Some (steps next q t)) e

  -- fewer steps don't lead back to the first side
  pub round-least : (r : Ring) (s : Side) → IsWalked next r → first_side r ≡ Some s → (q : ℕ) → steps next (suc q) s ≡ s → length r ≤ suc q
  round-least [] s walked begins q back = omega arith
  round-least (a ∷ []) s walked begins q back = omega arith
  round-least (a ∷ b ∷ points) s walked begins q back = elim (cases_lt (suc q) (length (a ∷ b ∷ points))) [
    | inl within ↦
        let e : (a, b) ≡ s = cc in
        let same : steps next (suc q) (a, b) ≡ (a, b) = subst (λ (t : Side). steps next (suc q) t ≡ t) (sym e) back in
        let at = side-along a b points a (b ∷ []) walked.follows (suc q) (omega arith) ∙ ap Some same in
        let later = Contains-at (sides_along b points a) q (a, b) at in
        let two = count-some (is_side (a, b)) (sides_along b points a) (a, b) later (is_side-refl (a, b)) in
        let one = count-yes (is_side (a, b)) (a, b) (sides_along b points a) (is_side-refl (a, b)) in
        let few = walked.once (a, b) in
        absurd (omega arith)
    | inr past ↦ past
  ]

  -- where the points along it differ, the steps are fewer than the sides of the ring
  pub distinct-short : (r : Ring) (s : Side) → IsWalked next r → first_side r ≡ Some s → (n : ℕ) → are_distinct (points_along next s n) ≡ true → n < length r
  distinct-short r s walked begins n distinct = elim (cases_lt n (length r)) [
    | inl within ↦ within
    | inr past ↦ absurd (by (length r) refl past)
  ]
    where
      by : (l : ℕ) → length r ≡ l → length r ≤ n → ⊥
      by zero is past = let two = walked.two in omega (arith, two, is)
      by (suc l) is past = distinct-away next l n s distinct (omega (arith, is, past)) (ap (λ (k : ℕ). steps next k s) (sym is) ∙ steps-round r s walked begins)

  -- ---- The sides of a ring

  -- a side of the ring is the one before a corner
  pub corner-after : (r : Ring) (s : Side) → IsWalked next r → Contains (sides_of r) s → (c : Corner) × Contains (corners_of r) c × (side_before c ≡ s)
  corner-after r s walked there = map-Contains side_before (corners_of r) s (subst (λ (l : List Side). Contains l s) (sym (sides-before r walked.two)) there)

  -- and the next one is too
  pub next-there : (r : Ring) (s : Side) → IsWalked next r → Contains (sides_of r) s → Contains (sides_of r) (next s)
  next-there r s walked there =
      let found = corner-after r s walked there in
      let c = found.0 in
      let first = has_first r walked.two in
      let behind = Contains-later first.0 (map side_behind (corners_of r)) (side_behind c) (Contains-map side_behind (corners_of r) c found.1) in
      let among = subst (λ (l : List Side). Contains l (side_behind c)) (sides-behind r first.0 walked.two first.1) behind in
      subst (Contains (sides_of r)) (sym (walked.follows c found.1) ∙ ap next found.2) (elim (Contains-append_cases (sides_of r) (first.0 ∷ []) (side_behind c) among) [
        | inl here ↦ here
        | inr last ↦ elim (Contains-cases first.0 [] (side_behind c) last) [ inl same ↦ subst (Contains (sides_of r)) same first.2 | inr none ↦ let low = none.1 in absurd (omega arith) ]
      ])

  pub steps-there : (r : Ring) (n : ℕ) (s : Side) → IsWalked next r → Contains (sides_of r) s → Contains (sides_of r) (steps next n s)
  steps-there r zero s walked there = there
  steps-there r (suc n) s walked there = steps-there r n (next s) walked (next-there r s walked there)

  -- a side of the ring is the next of another
  pub side-leading : (r : Ring) (s : Side) → IsWalked next r → Contains (sides_of r) s → (p : Side) × Contains (sides_of r) p × (next p ≡ s)
  side-leading r s walked there = by (length r) refl
    where
      by : (l : ℕ) → length r ≡ l → (p : Side) × Contains (sides_of r) p × (next p ≡ s)
      by zero none = let two = walked.two in absurd (omega (arith, two, none))
      by (suc l) long =
          let at = side-place r s there in
          let R = turned at.0 r in
          let round = steps-round R s (walked-same next r R (IsSameRing-turned at.0 r) walked) at.2 in
          let same : length R ≡ suc l = length-turned at.0 r ∙ long in
          (steps next l s, steps-there r l s walked there, sym (step-last next l s) ∙ ap (λ (n : ℕ). steps next n s) (sym same) ∙ round)
