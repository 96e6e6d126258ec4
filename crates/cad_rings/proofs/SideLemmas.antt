-- The sides of a ring: along a chain, from another place on, and in the other direction.
use Rattle.std.proofs.Common.{◌≡◌, ℕ, suc, ◌≤◌, ◌⊎◌, inl, inr, refl, sym, ◌∙◌, ap, List, [], ◌∷◌, ◌++◌, length, take, drop, map, reverse, arith, neg_ℤ}
use Rattle.std.proofs.lemmas.List.{append-nil, reverse-append, take-append-drop, length-take-le}
use Rattle.std.proofs.lemmas.List.Sorted.{IsPermutation-refl, IsPermutation-trans, IsPermutation-reverse}
use Rattle.std.proofs.lemmas.Bool.{cases_lt}
use Rattle.std.specs.Prelude.{IsPermutation}
use Rattle.geo_exact.specs.Position.{Position}
use Rattle.geo_exact.specs.Measure.{Measure, IsOdd}
use Rattle.cad_rings.specs.Cycle.{Ring, Side, opposite, sides_along, sides_of, turned, IsSameRing, ring_sum}
use Rattle.cad_rings.specs.Canonical.{least_rotation}
use Rattle.cad_rings.specs.Surgery.{reversed, sides_of_chain}
use Rattle.cad_rings.proofs.Permuted.{permuted_as, sum-permuted, sum-opposite}
use Rattle.cad_rings.proofs.Turned.{round_at, round_past, round_permuted, IsSameRing-append}
use Rattle.cad_rings.proofs.OneForm.{IsSameRing-least_rotation}

-- ---- Along a chain

-- a chain through b is one to b and one from b
pub sides_along-append : (a : ℕ) (xs : List ℕ) (b : ℕ) (ys : List ℕ) (z : ℕ) → sides_along a (xs ++ b ∷ ys) z ≡ sides_along a xs b ++ sides_along b ys z
sides_along-append a [] b ys z = refl
sides_along-append a (x ∷ xs) b ys z = ap (λ (l : List Side). (a, x) ∷ l) (sides_along-append x xs b ys z)

pub length-sides_along : (a : ℕ) (xs : List ℕ) (z : ℕ) → length (sides_along a xs z) ≡ suc (length xs)
length-sides_along a [] z = refl
length-sides_along a (x ∷ xs) z = ap suc (length-sides_along x xs z)

pub sides_of_chain-is : (a : ℕ) (xs : List ℕ) (z : ℕ) → sides_of_chain (a ∷ xs ++ z ∷ []) ≡ sides_along a xs z
sides_of_chain-is a [] z = refl
sides_of_chain-is a (x ∷ xs) z = ap (λ (l : List Side). (a, x) ∷ l) (sides_of_chain-is x xs z)

-- the chain backwards has the opposite sides, last first
pub sides_along-reverse : (a : ℕ) (xs : List ℕ) (z : ℕ) → sides_along z (reverse xs) a ≡ reverse (map opposite (sides_along a xs z))
sides_along-reverse a [] z = refl
sides_along-reverse a (x ∷ xs) z =
    ap (λ (l : List ℕ). sides_along z l a) (reverse-append (x ∷ []) xs)
    ∙ sides_along-append z (reverse xs) x [] a
    ∙ ap (λ (l : List Side). l ++ (x, a) ∷ []) (sides_along-reverse x xs z)
    ∙ sym (reverse-append ((x, a) ∷ []) (map opposite (sides_along x xs z)))

-- ---- From another place on

pub length-sides_of : (ring : Ring) → length (sides_of ring) ≡ length ring
length-sides_of [] = refl
length-sides_of (a ∷ points) = length-sides_along a points a

sides_of-pieces : (front back : List ℕ) → sides_of (back ++ front) ≡ drop (length front) (sides_of (front ++ back)) ++ take (length front) (sides_of (front ++ back))
sides_of-pieces [] back = ap sides_of (append-nil back) ∙ sym (append-nil (sides_of back))
sides_of-pieces (a ∷ front) [] =
    let S = sides_of (a ∷ front ++ []) in
    let e : sides_of (a ∷ front) ≡ S = ap sides_of (sym (append-nil (a ∷ front))) in
    let long : length S ≤ suc (length front) = let h = ap length (sym e) ∙ length-sides_of (a ∷ front) in omega arith in
    e ∙ sym (round_past (suc (length front)) S long)
sides_of-pieces (a ∷ front) (b ∷ back) =
    let first = sides_along a front b in
    let second = sides_along b back a in
    sides_along-append b back a front b ∙ sym (round_at first second)
    ∙ (λ i. drop (length-sides_along a front b i) (sym (sides_along-append a front b back a) i) ++ take (length-sides_along a front b i) (sym (sides_along-append a front b back a) i))

either_way : (m n : ℕ) → (m ≤ n) ⊎ (n ≤ m)
either_way m n = elim (cases_lt m n) [ inl h ↦ inl (omega arith) | inr h ↦ inr h ]

-- a ring written from another place on has the sides from that place on
pub sides_of-turned : (k : ℕ) (ring : Ring) → sides_of (turned k ring) ≡ drop k (sides_of ring) ++ take k (sides_of ring)
sides_of-turned k ring = elim (either_way k (length ring)) [
  | inl h ↦ sides_of-pieces (take k ring) (drop k ring) ∙ (λ i. drop (length-take-le k ring h i) (sides_of (take-append-drop k ring i)) ++ take (length-take-le k ring h i) (sides_of (take-append-drop k ring i)))
  | inr h ↦
      let long : length (sides_of ring) ≤ k = let e = length-sides_of ring in omega arith in
      ap sides_of (round_past k ring h) ∙ sym (round_past k (sides_of ring) long)
]

pub sides_of-same : (r s : Ring) → IsSameRing r s → IsPermutation (sides_of r) (sides_of s)
sides_of-same r s h =
    permuted_as (sides_of r) (sides_of r) (sides_of s) (drop h.place (sides_of r) ++ take h.place (sides_of r)) refl (ap sides_of h.is ∙ sides_of-turned h.place r) (round_permuted h.place (sides_of r))

pub sides_of-least_rotation : (ring : Ring) → IsPermutation (sides_of ring) (sides_of (least_rotation ring))
sides_of-least_rotation ring = sides_of-same ring (least_rotation ring) (IsSameRing-least_rotation ring)

-- ---- In the other direction

pub sides_of-reversed : (ring : Ring) → IsPermutation (map opposite (sides_of ring)) (sides_of (reversed ring))
sides_of-reversed [] = IsPermutation-refl []
sides_of-reversed (a ∷ points) =
    let M = map opposite (sides_along a points a) in
    IsPermutation-trans M (sides_of (a ∷ reverse points)) (sides_of (reverse (a ∷ points)))
    (permuted_as M M (sides_of (a ∷ reverse points)) (reverse M) refl (sides_along-reverse a points a) (IsPermutation-reverse M))
    (permuted_as (sides_of (a ∷ reverse points)) (sides_of (a ∷ reverse points)) (sides_of (reverse (a ∷ points))) (sides_of (reverse points ++ a ∷ [])) refl
    (ap sides_of (reverse-append (a ∷ []) points)) (sides_of-same (a ∷ reverse points) (reverse points ++ a ∷ []) (IsSameRing-append (a ∷ []) (reverse points))))

-- ---- Sums

pub ring_sum-same_ring : (f : Measure) (position : ℕ → Position) (r s : Ring) → IsSameRing r s → ring_sum f position r ≡ ring_sum f position s
ring_sum-same_ring f position r s h = sum-permuted f position (sides_of r) (sides_of s) (sides_of-same r s h)

pub ring_sum-reversed : (f : Measure) → IsOdd f → (position : ℕ → Position) (ring : Ring) → ring_sum f position (reversed ring) ≡ neg_ℤ (ring_sum f position ring)
ring_sum-reversed f odd position ring =
    sym (sum-permuted f position (map opposite (sides_of ring)) (sides_of (reversed ring)) (sides_of-reversed ring)) ∙ sum-opposite f odd position (sides_of ring)
