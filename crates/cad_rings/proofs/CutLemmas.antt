-- A ring cut by a chain: the sides of the two rings, their sums and their lengths.
use Rattle.std.proofs.Common.{◌≡◌, ℕ, ◌+◌, ◌*◌, refl, sym, ◌∙◌, ap, List, ◌∷◌, ◌++◌, length, map, reverse, ◌+ℤ◌, arith}
use Rattle.std.proofs.lemmas.Int.{ints}
use Rattle.std.proofs.lemmas.List.{length-append, length-reverse}
use Rattle.std.proofs.lemmas.List.Sorted.{IsPermutation-trans, IsPermutation-sym, IsPermutation-append_left, IsPermutation-append_right, IsPermutation-reverse}
use Rattle.std.specs.Prelude.{IsPermutation, slice_index}
use Rattle.geo_exact.specs.Position.{Position}
use Rattle.geo_exact.specs.Measure.{Measure, IsOdd}
use Rattle.cad_rings.specs.Cycle.{Ring, Side, opposite, sides_along, sides_of, ring_sum, turned}
use Rattle.cad_rings.specs.Surgery.{left_ring, right_ring, chain_across, AreTwoPlaces, sides_of_chain, both_ways}
use Rattle.cad_rings.proofs.Permuted.{permuted_as, second_last, both_ways-apart, sum-permuted, sum-append, sum-both_ways}
use Rattle.cad_rings.proofs.SideLemmas.{sides_along-append, sides_along-reverse, sides_of_chain-is, sides_of-same}
use Rattle.cad_rings.proofs.Turned.{IsSameRing-turned, length-turned}
use Rattle.cad_rings.proofs.Parts.{parted}

-- a chain, and back along it
chain_both_ways : (a : ℕ) (inner : List ℕ) (b : ℕ) → IsPermutation (sides_along a inner b ++ sides_along b (reverse inner) a) (both_ways (sides_along a inner b))
chain_both_ways a inner b =
    let C = sides_along a inner b in
    let M = map opposite C in
    IsPermutation-trans (C ++ sides_along b (reverse inner) a) (C ++ M) (both_ways C)
    (permuted_as (C ++ sides_along b (reverse inner) a) (C ++ reverse M) (C ++ M) (C ++ M) (ap (λ (l : List Side). C ++ l) (sides_along-reverse a inner b)) refl
    (IsPermutation-append_right C (reverse M) M (IsPermutation-sym M (reverse M) (IsPermutation-reverse M))))
    (IsPermutation-sym (both_ways C) (C ++ M) (both_ways-apart C))

-- the two rings have the sides of the one, and those of the chain both ways
pub sides_of-parts : (a : ℕ) (xs : List ℕ) (b : ℕ) (ys inner : List ℕ)
    → IsPermutation (sides_of (a ∷ inner ++ b ∷ ys) ++ sides_of (b ∷ reverse inner ++ a ∷ xs)) (both_ways (sides_along a inner b) ++ sides_of (a ∷ xs ++ b ∷ ys))
sides_of-parts a xs b ys inner =
    let C = sides_along a inner b in
    let back = sides_along b (reverse inner) a in
    let SX = sides_along a xs b in
    let SY = sides_along b ys a in
    permuted_as (sides_of (a ∷ inner ++ b ∷ ys) ++ sides_of (b ∷ reverse inner ++ a ∷ xs)) ((C ++ SY) ++ (back ++ SX)) (both_ways C ++ sides_of (a ∷ xs ++ b ∷ ys)) (both_ways C ++ (SX ++ SY))
    (λ i. sides_along-append a inner b ys a i ++ sides_along-append b (reverse inner) a xs b i) (ap (λ (l : List Side). both_ways C ++ l) (sides_along-append a xs b ys a))
    (IsPermutation-trans ((C ++ SY) ++ (back ++ SX)) ((C ++ back) ++ (SX ++ SY)) (both_ways C ++ (SX ++ SY)) (second_last C SY back SX)
    (IsPermutation-append_left (SX ++ SY) (C ++ back) (both_ways C) (chain_both_ways a inner b)))

-- the chain and its two rings, as lists
pub record IsCut (i j : ℕ) (inner : List ℕ) (ring : Ring) : Type 0 where
  pub xs : List ℕ
  pub ys : List ℕ
  pub left : left_ring i j inner ring ≡ slice_index ring i ∷ inner ++ slice_index ring j ∷ ys
  pub right : right_ring i j inner ring ≡ slice_index ring j ∷ reverse inner ++ slice_index ring i ∷ xs
  pub round : turned i ring ≡ slice_index ring i ∷ xs ++ slice_index ring j ∷ ys
  pub round_back : turned j ring ≡ slice_index ring j ∷ ys ++ slice_index ring i ∷ xs

pub cut : (i j : ℕ) (inner : List ℕ) (ring : Ring) → AreTwoPlaces i j ring → IsCut i j inner ring
cut i j inner ring two =
    let h = parted i j ring two in
    record {
      xs = h.after_i;
      ys = h.after_j;
      left = ap (λ (l : List ℕ). slice_index ring i ∷ inner ++ l) h.second;
      right = ap (λ (l : List ℕ). slice_index ring j ∷ reverse inner ++ l) h.first;
      round = h.round ∙ (λ k. h.first k ++ h.second k);
      round_back = h.round_back ∙ (λ k. h.second k ++ h.first k);
    }

pub sides_of-cut : (i j : ℕ) (inner : List ℕ) (ring : Ring) → AreTwoPlaces i j ring
    → IsPermutation (sides_of (left_ring i j inner ring) ++ sides_of (right_ring i j inner ring)) (both_ways (sides_of_chain (chain_across i j inner ring)) ++ sides_of ring)
sides_of-cut i j inner ring two =
    let h = cut i j inner ring two in
    let a = slice_index ring i in
    let b = slice_index ring j in
    let C = sides_along a inner b in
    let whole = a ∷ h.xs ++ b ∷ h.ys in
    IsPermutation-trans (sides_of (left_ring i j inner ring) ++ sides_of (right_ring i j inner ring)) (both_ways C ++ sides_of whole) (both_ways (sides_of_chain (chain_across i j inner ring)) ++ sides_of ring)
    (permuted_as (sides_of (left_ring i j inner ring) ++ sides_of (right_ring i j inner ring)) (sides_of (a ∷ inner ++ b ∷ h.ys) ++ sides_of (b ∷ reverse inner ++ a ∷ h.xs)) (both_ways C ++ sides_of whole) (both_ways C ++ sides_of whole)
    (λ k. sides_of (h.left k) ++ sides_of (h.right k)) refl (sides_of-parts a h.xs b h.ys inner))
    (permuted_as (both_ways C ++ sides_of whole) (both_ways C ++ sides_of (turned i ring)) (both_ways (sides_of_chain (chain_across i j inner ring)) ++ sides_of ring) (both_ways C ++ sides_of ring)
    (ap (λ (l : List ℕ). both_ways C ++ sides_of l) (sym h.round)) (ap (λ (l : List Side). both_ways l ++ sides_of ring) (sides_of_chain-is a inner b))
    (IsPermutation-append_right (both_ways C) (sides_of (turned i ring)) (sides_of ring) (IsPermutation-sym (sides_of ring) (sides_of (turned i ring)) (sides_of-same ring (turned i ring) (IsSameRing-turned i ring)))))

-- The two rings of a cut add up to the ring.
pub ring_sum-cut : (f : Measure) → IsOdd f → (position : ℕ → Position) (i j : ℕ) (inner : List ℕ) (ring : Ring) → AreTwoPlaces i j ring
    → ring_sum f position (left_ring i j inner ring) +ℤ ring_sum f position (right_ring i j inner ring) ≡ ring_sum f position ring
ring_sum-cut f odd position i j inner ring two =
    let L = sides_of (left_ring i j inner ring) in
    let R = sides_of (right_ring i j inner ring) in
    let C = both_ways (sides_of_chain (chain_across i j inner ring)) in
    let e1 = sum-append f position L R in
    let e2 = sum-permuted f position (L ++ R) (C ++ sides_of ring) (sides_of-cut i j inner ring two) in
    let e3 = sum-append f position C (sides_of ring) in
    let e4 = sum-both_ways f odd position (sides_of_chain (chain_across i j inner ring)) in
    omega (arith, ints, e1, e2, e3, e4)

-- each of the two rings has the chain's points, and every other point of the ring is in one of them
pub length-cut : (i j : ℕ) (inner : List ℕ) (ring : Ring) → AreTwoPlaces i j ring
    → length (left_ring i j inner ring) + length (right_ring i j inner ring) ≡ length ring + 2 * (length inner + 1)
length-cut i j inner ring two =
    let h = cut i j inner ring two in
    let a = slice_index ring i in
    let b = slice_index ring j in
    let e1 = ap length h.left in
    let e2 = ap length h.right in
    let e3 = ap length h.round in
    let e4 = length-append (a ∷ inner) (b ∷ h.ys) in
    let e5 = length-append (b ∷ reverse inner) (a ∷ h.xs) in
    let e6 = length-append (a ∷ h.xs) (b ∷ h.ys) in
    let e7 = length-reverse inner in
    let e8 = length-turned i ring in
    omega arith
