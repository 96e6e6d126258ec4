-- A ring with a point between two others, and without it: what the one tells of the other.
-- A split is a move of the new point from where the string's first end lies: there one of its two
-- sides has no length, and the other is the string that was split. A join is that read backwards.
use Rattle.std.proofs.Common.{◌≡◌, ℕ, ◌≤◌, inl, inr, refl, sym, ap, subst, ◌∙◌, List, [], ◌∷◌, ◌++◌, length, map, flat_map, Bool, true, false, pos, arith, ◌⊎◌, ◌==◌, eqb-true}
use Rattle.std.proofs.lemmas.Int.{ints}
use Rattle.std.specs.Prelude.{IsPermutation}
use Rattle.std.specs.List.{Contains}
use Rattle.geo_exact.specs.Position.{Position}
use Rattle.geo_exact.specs.Inside.{is_counted, is_counted_upwards, is_inside}
use Rattle.geo_exact.specs.Measure.{doubled_area}
use Rattle.cad_rings.specs.Cycle.{Ring, Corner, corners_of, sides_of, placed, ring_sum, times_through}
use Rattle.cad_rings.specs.Surgery.{corner, without}
use Rattle.cad_rings.proofs.CallerLemmas.{sum-permuted}
use Rattle.cad_map.proofs.CallerLemmas.{Contains-first, corners_at, filter-Contains, new_side, old_sides, sides-without, through-corners}
use Rattle.cad_valid.proofs.CallerLemmas.{differ, inside-cons, inside-permuted, rises_past}

-- ---- Counts of sides

-- a side from a position to itself is counted nowhere, and has no area
counted-nothing : (z q : Position) → is_counted z z q ≡ false
counted-nothing z q = by (is_counted_upwards z z q) refl
  where
    by : (b : Bool) → is_counted_upwards z z q ≡ b → is_counted z z q ≡ false
    by false is = rw is refl
    by true is = let rises = rises_past z z q is in absurd (omega (arith, ints, rises.0, rises.1))

area-nothing : (z : Position) → doubled_area z z ≡ pos 0
area-nothing z = omega (arith, ints)

-- one of two that stand in both
differ-same : (a b c : Bool) → differ a b ≡ differ a c → b ≡ c
differ-same a b c is = grind (arith, is)

-- ---- The ring with the point

-- where the ring has the point: nowhere, from a to b, or from b to a
pub data Passing (p a b : ℕ) (ring : Ring) : Type 0 where
  past : corners_at p ring ≡ [] → Passing p a b ring
  forth : corners_at p ring ≡ corner a p b ∷ [] → Passing p a b ring
  back : corners_at p ring ≡ corner b p a ∷ [] → Passing p a b ring

module _ (p : ℕ) (ring : Ring) (two : 2 ≤ length ring) (once : times_through p ring ≤ 1) where
  few : length (corners_at p ring) ≤ 1
  few = let e = through-corners p ring two in omega (arith, e, once)

  pub passing : (a b : ℕ) → ((c : Corner) → Contains (corners_of ring) c → c.at ≡ p → (c ≡ corner a p b) ⊎ (c ≡ corner b p a)) → Passing p a b ring
  passing a b at_p = by (corners_at p ring) refl
    where
      by : (cs : List Corner) → corners_at p ring ≡ cs → Passing p a b ring
      by [] is = Passing.past is
      by (c ∷ []) is =
          let here = filter-Contains (λ c. c.at == p) (corners_of ring) c (subst (λ (l : List Corner). Contains l c) (sym is) (Contains-first c [])) in
          elim (at_p c here.0 (eqb-true c.at p here.1)) [
            | inl e ↦ Passing.forth (is ∙ ap (λ (d : Corner). d ∷ []) e)
            | inr e ↦ Passing.back (is ∙ ap (λ (d : Corner). d ∷ []) e)
          ]
      by (c ∷ d ∷ cs) is = let e = ap (λ (l : List Corner). length l) is in let f = few in absurd (omega (arith, e, f))

  -- a ring that doesn't have it has the same sides
  pub sides-past : corners_at p ring ≡ [] → IsPermutation (sides_of ring) (sides_of (without p ring))
  sides-past is = subst (λ (cs : List Corner). IsPermutation (map (new_side p) cs ++ sides_of ring) (flat_map (old_sides p) cs ++ sides_of (without p ring))) is (sides-without p ring two few)

  -- in one that has it between x and y two sides give way to one
  pub sides-straight : (x y : ℕ) → corners_at p ring ≡ corner x p y ∷ [] → IsPermutation ((x, y) ∷ sides_of ring) ((x, p) ∷ (p, y) ∷ sides_of (without p ring))
  sides-straight x y is = subst (λ (cs : List Corner). IsPermutation (map (new_side p) cs ++ sides_of ring) (flat_map (old_sides p) cs ++ sides_of (without p ring))) is (sides-without p ring two few)

  -- ---- Where the point lies at one of the two, nothing changes

  module _ (a b : ℕ) (pass : Passing p a b ring) (position : ℕ → Position) (at_first : position p ≡ position a) where
    pub area-straight : ring_sum doubled_area position ring ≡ ring_sum doubled_area position (without p ring)
    area-straight = by pass
      where
        none : doubled_area (position a) (position p) ≡ pos 0
        none = ap (doubled_area (position a)) at_first ∙ area-nothing (position a)

        none_back : doubled_area (position p) (position a) ≡ pos 0
        none_back = ap (λ (z : Position). doubled_area z (position a)) at_first ∙ area-nothing (position a)

        by : Passing p a b ring → ring_sum doubled_area position ring ≡ ring_sum doubled_area position (without p ring)
        by (Passing.past is) = sum-permuted doubled_area position (sides_of ring) (sides_of (without p ring)) (sides-past is)
        by (Passing.forth is) =
            let e = sum-permuted doubled_area position ((a, b) ∷ sides_of ring) ((a, p) ∷ (p, b) ∷ sides_of (without p ring)) (sides-straight a b is) in
            let same = ap (λ (z : Position). doubled_area z (position b)) at_first in
            let n = none in omega (arith, ints, e, same, n)
        by (Passing.back is) =
            let e = sum-permuted doubled_area position ((b, a) ∷ sides_of ring) ((b, p) ∷ (p, a) ∷ sides_of (without p ring)) (sides-straight b a is) in
            let same = ap (λ (z : Position). doubled_area (position b) z) at_first in
            let n = none_back in omega (arith, ints, e, same, n)

    pub inside-straight : (q : Position) → is_inside (placed position (sides_of ring)) q ≡ is_inside (placed position (sides_of (without p ring))) q
    inside-straight q = by pass
      where
        left : Bool
        left = is_inside (placed position (sides_of ring)) q

        right : Bool
        right = is_inside (placed position (sides_of (without p ring))) q

        counted : (x y : ℕ) → corners_at p ring ≡ corner x p y ∷ [] → differ (is_counted (position x) (position y) q) left ≡ differ (is_counted (position x) (position p) q) (differ (is_counted (position p) (position y) q) right)
        counted x y is =
            sym (inside-cons (position x, position y) (placed position (sides_of ring)) q)
            ∙ inside-permuted position q ((x, y) ∷ sides_of ring) ((x, p) ∷ (p, y) ∷ sides_of (without p ring)) (sides-straight x y is)
            ∙ inside-cons (position x, position p) (placed position ((p, y) ∷ sides_of (without p ring))) q
            ∙ ap (differ (is_counted (position x) (position p) q)) (inside-cons (position p, position y) (placed position (sides_of (without p ring))) q)

        by : Passing p a b ring → left ≡ right
        by (Passing.past is) = inside-permuted position q (sides_of ring) (sides_of (without p ring)) (sides-past is)
        by (Passing.forth is) =
            differ-same (is_counted (position a) (position b) q) left right
            (counted a b is ∙ (λ i. differ (none i) (differ (is_counted (at_first i) (position b) q) right)))
          where
            none : is_counted (position a) (position p) q ≡ false
            none = ap (λ (z : Position). is_counted (position a) z q) at_first ∙ counted-nothing (position a) q
        by (Passing.back is) =
            differ-same (is_counted (position b) (position a) q) left right
            (counted b a is ∙ (λ i. differ (is_counted (position b) (at_first i) q) (differ (none i) right)))
          where
            none : is_counted (position p) (position a) q ≡ false
            none = ap (λ (z : Position). is_counted z (position a) q) at_first ∙ counted-nothing (position a) q
