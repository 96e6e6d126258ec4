-- The corners of rings at one point, and the sides that a ring has with and without the point.
use Rattle.std.proofs.Common.{◌≡◌, ◌≢◌, ℕ, ◌+◌, ◌≤◌, ◌⊎◌, inl, inr, refl, sym, ap, subst, ◌∙◌, List, [], ◌∷◌, ◌++◌, length, map, filter, Bool, true, false, cond, ◌==◌, arith}
use Rattle.std.specs.Prelude.{IsPermutation, sum_by, count_by, flat_map}
use Rattle.std.specs.List.{Contains}
use Rattle.std.proofs.lemmas.Bool.{eqb-true}
use Rattle.std.proofs.lemmas.List.Sums.{sum_by-cons, sum_by-append}
use Rattle.std.proofs.lemmas.List.Sorted.{IsPermutation-refl, IsPermutation-cons, IsPermutation-trans, IsPermutation-middle, IsPermutation-sym, sum_by-IsPermutation, Contains-permutation}
use Rattle.cad_rings.specs.Cycle.{Ring, Side, is_side, sides_of, sides_along, times_through, Corner, corners_of}
use Rattle.cad_rings.specs.Surgery.{without}
use Rattle.cad_rings.proofs.CallerLemmas.{without-none, sides_of-without}
use Rattle.cad_map.proofs.Lists.Elements.{Contains-cases, Contains-first, Contains-later, count-map}
use Rattle.cad_map.proofs.Lists.ElementFacts.{filter-Contains}
use Rattle.cad_map.proofs.Walks.Counted.{parted-at}
use Rattle.cad_map.proofs.Walks.AlongRing.{side_before, side_behind, sides-before, is_side-refl}

-- ---- Two elements

-- elements with keys that stand once: where each is one of two that are there, they are the two
pub permuted-two : {X : Type 0} (key : X → Side) (xs : List X) (x y : X) → Contains xs x → Contains xs y → x ≢ y → ((z : X) → Contains xs z → (z ≡ x) ⊎ (z ≡ y)) → ((s : Side) → count_by (λ z. is_side s (key z)) xs ≤ 1)
    → IsPermutation xs (x ∷ y ∷ [])
permuted-two {X} key xs x y has_x has_y differ each once =
    let one = parted-at xs x has_x in
    let moved : IsPermutation xs (x ∷ (one.0 ++ one.1)) = subst (λ (l : List X). IsPermutation l (x ∷ (one.0 ++ one.1))) (sym one.2) (IsPermutation-middle one.0 x one.1) in
    let rest = one.0 ++ one.1 in
    let in_rest : Contains rest y = elim (Contains-cases x rest y (Contains-permutation xs (x ∷ rest) y moved has_y)) [ inl e ↦ absurd (differ e) | inr later ↦ later ] in
    let other = parted-at rest y in_rest in
    let moved_too : IsPermutation rest (y ∷ (other.0 ++ other.1)) = subst (λ (l : List X). IsPermutation l (y ∷ (other.0 ++ other.1))) (sym other.2) (IsPermutation-middle other.0 y other.1) in
    let all : IsPermutation xs (x ∷ y ∷ (other.0 ++ other.1)) = IsPermutation-trans xs (x ∷ rest) (x ∷ y ∷ (other.0 ++ other.1)) moved (IsPermutation-cons x rest (y ∷ (other.0 ++ other.1)) moved_too) in
    subst (λ (l : List X). IsPermutation xs (x ∷ y ∷ l)) (nothing (other.0 ++ other.1) all) all
  where
    nothing : (zs : List X) → IsPermutation xs (x ∷ y ∷ zs) → zs ≡ []
    nothing [] all = refl
    nothing (z ∷ zs) all = absurd (by (each z (Contains-permutation (x ∷ y ∷ z ∷ zs) xs z (IsPermutation-sym xs (x ∷ y ∷ z ∷ zs) all) (Contains-later x (y ∷ z ∷ zs) z (Contains-later y (z ∷ zs) z (Contains-first z zs))))))
      where
        amount : X → ℕ
        amount v = cond (is_side (key z) (key v)) 1 0

        here : amount z ≡ 1
        here = rw (is_side-refl (key z)) refl

        few : amount x + (amount y + (amount z + sum_by amount zs)) ≤ 1
        few =
            let low = once (key z) in
            let moved = sum_by-IsPermutation amount xs (x ∷ y ∷ z ∷ zs) all in
            let a = sum_by-cons amount x (y ∷ z ∷ zs) in
            let b = sum_by-cons amount y (z ∷ zs) in
            let c = sum_by-cons amount z zs in
            omega (arith, low, moved, a, b, c)

        by : (z ≡ x) ⊎ (z ≡ y) → ⊥
        by (inl same) = let k : amount x ≡ amount z = ap amount (sym same) in let f = few in let h = here in absurd (omega (arith, f, k, h))
        by (inr same) = let k : amount y ≡ amount z = ap amount (sym same) in let f = few in let h = here in absurd (omega (arith, f, k, h))

-- ---- How often a ring passes a point

length-filter : {X : Type 0} (test : X → Bool) (xs : List X) → length (filter test xs) ≡ count_by test xs
length-filter test [] = refl
length-filter test (x ∷ xs) = by (test x) (length-filter test xs) (sum_by-cons (λ (z : _). cond (test z) 1 0) x xs)
  where
    by : (b : Bool) → length (filter test xs) ≡ count_by test xs → count_by test (x ∷ xs) ≡ cond b 1 0 + count_by test xs → length (cond b (x ∷ filter test xs) (filter test xs)) ≡ count_by test (x ∷ xs)
    by true rest e = omega (arith, rest, e)
    by false rest e = omega (arith, rest, e)

ends-along : (a : ℕ) (points : List ℕ) (z : ℕ) → map (λ (s : Side). s.1) (sides_along a points z) ≡ points ++ z ∷ []
ends-along a [] z = refl
ends-along a (b ∷ points) z = ap (λ (l : List ℕ). b ∷ l) (ends-along b points z)

module _ (p : ℕ) where
  abbrev pub corners_at : Ring → List Corner
  corners_at ring = filter (λ c. c.at == p) (corners_of ring)

  through-sides : (ring : Ring) → count_by (λ (s : Side). s.1 == p) (sides_of ring) ≡ times_through p ring
  through-sides [] = refl
  through-sides (a ∷ points) =
      sym (count-map (λ (s : Side). s.1) (λ q. q == p) (sides_along a points a)) ∙ ap (λ (l : List ℕ). count_by (λ q. q == p) l) (ends-along a points a)
      ∙ (let e = sum_by-append (λ (q : ℕ). cond (q == p) 1 0) points (a ∷ []) in let k = sum_by-cons (λ (q : ℕ). cond (q == p) 1 0) a points in let l = sum_by-cons (λ (q : ℕ). cond (q == p) 1 0) a [] in omega (arith, e, k, l))

  pub through-corners : (ring : Ring) → 2 ≤ length ring → times_through p ring ≡ length (corners_at ring)
  through-corners ring two =
      sym (through-sides ring) ∙ ap (λ (l : List Side). count_by (λ (s : Side). s.1 == p) l) (sym (sides-before ring two)) ∙ count-map side_before (λ (s : Side). s.1 == p) (corners_of ring)
      ∙ sym (length-filter (λ (c : Corner). c.at == p) (corners_of ring))

  -- ---- With and without the point

  abbrev pub new_side : Corner → Side
  new_side c = (c.before, c.after)

  abbrev pub old_sides : Corner → List Side
  old_sides c = side_before c ∷ side_behind c ∷ []

  -- a ring that passes the point at most once: where it does, two sides give way to one
  pub sides-without : (ring : Ring) → 2 ≤ length ring → length (corners_at ring) ≤ 1
      → IsPermutation (map new_side (corners_at ring) ++ sides_of ring) (flat_map old_sides (corners_at ring) ++ sides_of (without p ring))
  sides-without ring two few = by (corners_at ring) refl
    where
      by : (cs : List Corner) → corners_at ring ≡ cs → IsPermutation (map new_side cs ++ sides_of ring) (flat_map old_sides cs ++ sides_of (without p ring))
      by [] is = subst (λ (r : Ring). IsPermutation (sides_of ring) (sides_of r)) (sym (without-none p ring (through-corners ring two ∙ ap (λ (l : List Corner). length l) is))) (IsPermutation-refl (sides_of ring))
      by (c ∷ []) is =
          let here = filter-Contains (λ c. c.at == p) (corners_of ring) c (subst (λ (l : List Corner). Contains l c) (sym is) (Contains-first c [])) in
          let at : c.at ≡ p = eqb-true c.at p here.1 in
          let once : times_through c.at ring ≡ 1 = ap (λ (q : ℕ). times_through q ring) at ∙ through-corners ring two ∙ ap (λ (l : List Corner). length l) is in
          subst (λ (q : ℕ). IsPermutation ((c.before, c.after) ∷ sides_of ring) ((c.before, c.at) ∷ (c.at, c.after) ∷ sides_of (without q ring))) at (sides_of-without ring c here.0 once)
      by (c ∷ d ∷ cs) is = let e = ap (λ (l : List Corner). length l) is in absurd (omega (arith, e, few))
