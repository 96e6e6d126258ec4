-- What is inside a ring is inside the box of the ring, in whatever order its sides are counted.
-- A closed list changes the side of a horizontal line an even number of times. So of the sides
-- that lie right of a position an even number is counted there (`not_inside`).
use Rattle.std.proofs.Common.{◌≡◌, ℕ, ◌+◌, ◌%◌, refl, sym, ap, ◌∙◌, List, [], ◌∷◌, Bool, true, false, not, cond, nat_eq, true≢false, ℤ, pos, ◌+ℤ◌, ◌-ℤ◌, ◌*ℤ◌, neg_ℤ, ◌≤ℤ◌, ◌<ℤ◌, arith}
use Rattle.std.specs.Prelude.{IsPermutation, ◌&&◌, ◌||◌, int_le, int_lt, count_by}
use Rattle.std.specs.List.{AllByRecursion}
use Rattle.std.proofs.lemmas.Bool.{eqb-true, eqb-false}
use Rattle.std.proofs.lemmas.Int.{ints, by_lt_z}
use Rattle.std.proofs.lemmas.List.Sorted.{IsPermutation-map, sum_by-IsPermutation}
use Rattle.std.proofs.lemmas.List.Sums.{sum_by-cons}
use Rattle.geo_exact.specs.Position.{Position}
use Rattle.geo_exact.specs.Orientation.{orientation, is_left}
use Rattle.geo_exact.specs.Inside.{is_counted, is_counted_upwards, is_inside}
use Rattle.geo_exact.proofs.Toolbox.{by_parts, var, num, ◌⊞◌, ◌⊟◌, ◌⊠◌, positive-positive}
use Rattle.geo_exact.specs.Position.{coordinate_limit}
use Rattle.sweep.specs.declared.extent.Extent.{Extent}
use Rattle.cad_valid.specs.Extents.{IsWithin}
use Rattle.cad_rings.specs.Cycle.{Ring, Side, sides_along, sides_of, placed}

-- ---- One side

-- the orientation, by the distances from q
from_q : (a b q : Position) → orientation a b q ≡ (b.x -ℤ q.x) *ℤ (q.y -ℤ a.y) +ℤ (b.y -ℤ q.y) *ℤ (a.x -ℤ q.x)
from_q a b q =
    let AX = var 0 in let AY = var 1 in let BX = var 2 in let BY = var 3 in let QX = var 4 in let QY = var 5 in
    by_parts (a.x ∷ a.y ∷ b.x ∷ b.y ∷ q.x ∷ q.y ∷ []) ((BX ⊟ AX) ⊠ (QY ⊟ AY) ⊟ (BY ⊟ AY) ⊠ (QX ⊟ AX)) ((BX ⊟ QX) ⊠ (QY ⊟ AY) ⊞ (BY ⊟ QY) ⊠ (AX ⊟ QX)) (omega arith)

-- a product of a positive number and one that isn't negative
not_negative : (x y : ℤ) → pos 0 <ℤ x → pos 0 ≤ℤ y → pos 0 ≤ℤ (x *ℤ y)
not_negative x y h k = by_lt_z (pos 0) y (λ some. let e = positive-positive x y h some in omega (arith, ints)) (λ none. let e : y ≡ pos 0 = omega (arith, ints) in let z : x *ℤ y ≡ pos 0 = ap (λ (v : ℤ). x *ℤ v) e ∙ omega (arith, ints) in omega (arith, ints))

-- a sum of two such products
two_products : (v t r u : ℤ) → pos 0 <ℤ v → pos 0 ≤ℤ t → pos 0 <ℤ r → pos 0 <ℤ u → pos 0 <ℤ (v *ℤ t +ℤ r *ℤ u)
two_products v t r u hv ht hr hu = let one = not_negative v t hv ht in let two = positive-positive r u hr hu in omega (arith, ints)

less : (z : ℤ) → pos 0 <ℤ z → int_lt (pos 0) z ≡ true
less z h = grind (arith, ints)

-- q is left of a side that rises past it where it is left of both ends
left_of : (a b q : Position) → a.y ≤ℤ q.y → q.y <ℤ b.y → q.x <ℤ a.x → q.x <ℤ b.x → is_left a b q ≡ true
left_of a b q low high left right =
    let h = two_products (b.x -ℤ q.x) (q.y -ℤ a.y) (b.y -ℤ q.y) (a.x -ℤ q.x) (omega (arith, ints)) (omega (arith, ints)) (omega (arith, ints)) (omega (arith, ints)) in
    ap (λ (z : ℤ). int_lt (pos 0) z) (from_q a b q) ∙ less _ h

-- whether it lies no higher than q
abbrev pub low : Position → Position → Bool
low q p = int_le p.y q.y

-- one of the two, and not both
abbrev pub differ : Bool → Bool → Bool
differ a b = cond a (not b) b

-- where q is left of both ends, the side is counted exactly where one end lies no higher than q
pub counted-left : (a b q : Position) → q.x <ℤ a.x → q.x <ℤ b.x → is_counted a b q ≡ differ (low q a) (low q b)
counted-left a b q left right = by (low q a) (low q b) refl refl
  where
    at_most : (y z : ℤ) → int_le y z ≡ true → y ≤ℤ z
    at_most y z h = grind (arith, ints)

    above : (y z : ℤ) → int_le y z ≡ false → z <ℤ y
    above y z h = grind (arith, ints)

    by : (s t : Bool) → low q a ≡ s → low q b ≡ t → is_counted a b q ≡ differ s t
    by true true h k = simp (h, k)
    by true false h k = let l = left_of a b q (at_most a.y q.y h) (above b.y q.y k) left right in simp (h, k, l)
    by false true h k = let l = left_of b a q (at_most b.y q.y k) (above a.y q.y h) right left in simp (h, k, l)
    by false false h k = simp (h, k)

-- where q is counted, the side rises past it
pub rises_past : (a b q : Position) → is_counted_upwards a b q ≡ true → (a.y ≤ℤ q.y) × (q.y <ℤ b.y) × (is_left a b q ≡ true)
rises_past a b q h = by (int_le a.y q.y) (int_le b.y q.y) (is_left a b q) refl refl refl h
  where
    by : (s t u : Bool) → int_le a.y q.y ≡ s → int_le b.y q.y ≡ t → is_left a b q ≡ u → (s && not t && u) ≡ true → (a.y ≤ℤ q.y) × (q.y <ℤ b.y) × (is_left a b q ≡ true)
    by true false true hs ht hu all = (grind (arith, ints), grind (arith, ints), hu)
    by true false false hs ht hu all = absurd (true≢false (sym all))
    by true true u hs ht hu all = absurd (true≢false (sym all))
    by false t u hs ht hu all = absurd (true≢false (sym all))

-- ---- All sides

-- one more is odd where the number isn't
pub odd : (n : ℕ) (s t : Bool) → nat_eq (n % 2) 1 ≡ s → nat_eq ((1 + n) % 2) 1 ≡ t → t ≡ not s
odd n true true h k = let a = eqb-true (n % 2) 1 h in let b = eqb-true ((1 + n) % 2) 1 k in absurd (omega arith)
odd n true false h k = refl
odd n false true h k = refl
odd n false false h k = let a = eqb-false (n % 2) 1 h in let b = eqb-false ((1 + n) % 2) 1 k in absurd (omega arith)

-- one more side in the count
pub inside-cons : (side : Position × Position) (sides : List (Position × Position)) (q : Position) → is_inside (side ∷ sides) q ≡ differ (is_counted side.0 side.1 q) (is_inside sides q)
inside-cons side sides q =
    let counted : Position × Position → Bool = λ s. is_counted s.0 s.1 q in
    ap (λ (n : ℕ). nat_eq (n % 2) 1) (sum_by-cons (λ (s : Position × Position). cond (counted s) 1 0) side sides) ∙ by (counted side) (count_by counted sides)
  where
    by : (b : Bool) (n : ℕ) → nat_eq ((cond b 1 0 + n) % 2) 1 ≡ differ b (nat_eq (n % 2) 1)
    by true n = odd n (nat_eq (n % 2) 1) (nat_eq ((1 + n) % 2) 1) refl refl
    by false n = ap (λ (k : ℕ). nat_eq (k % 2) 1) (omega arith)

-- in whatever order sides are counted, the position is inside or not
pub inside-permuted : (position : ℕ → Position) (q : Position) (xs ys : List Side) → IsPermutation xs ys
    → is_inside (placed position xs) q ≡ is_inside (placed position ys) q
inside-permuted position q xs ys same =
    let place : Side → Position × Position = λ t. (position t.0, position t.1) in
    let counted : Position × Position → ℕ = λ side. cond (is_counted side.0 side.1 q) 1 0 in
    ap (λ (n : ℕ). nat_eq (n % 2) 1) (sym (sum_by-IsPermutation counted (placed position xs) (placed position ys) (IsPermutation-map place xs ys same)))

differ-through : (a b c : Bool) → differ (differ a b) (differ b c) ≡ differ a c
differ-through a b c = grind arith

pub differ-none : (a : Bool) → differ a false ≡ a
differ-none true = refl
differ-none false = refl

module _ (position : ℕ → Position) (q : Position) where
  -- both ends of the side lie right of q
  abbrev IsRight : Position × Position → Type 0
  IsRight side = (q.x <ℤ side.0.x) × (q.x <ℤ side.1.x)

  -- along sides right of q, an odd number is counted where one end of the way lies no higher than q, and the other higher
  inside-along : (a : ℕ) (points : List ℕ) (z : ℕ) → AllByRecursion IsRight (placed position (sides_along a points z))
      → is_inside (placed position (sides_along a points z)) q ≡ differ (low q (position a)) (low q (position z))
  inside-along a [] z all =
      inside-cons (position a, position z) [] q ∙ differ-none (is_counted (position a) (position z) q)
      ∙ counted-left (position a) (position z) q all.0.0 all.0.1
  inside-along a (b ∷ points) z all =
      inside-cons (position a, position b) (placed position (sides_along b points z)) q
      ∙ (λ i. differ (counted-left (position a) (position b) q all.0.0 all.0.1 i) (inside-along b points z all.1 i))
      ∙ differ-through (low q (position a)) (low q (position b)) (low q (position z))

  -- so q isn't inside a ring that lies right of it
  not_inside : (ring : Ring) → AllByRecursion IsRight (placed position (sides_of ring)) → is_inside (placed position (sides_of ring)) q ≡ false
  not_inside [] all = refl
  not_inside (a ∷ points) all = inside-along a points a all ∙ none (low q (position a))
    where
      none : (a : Bool) → differ a a ≡ false
      none true = refl
      none false = refl

-- ---- The box

-- the position isn't right of the box, nor above or below it
record IsNotPast (e : Extent) (p : Position) : Type 0 where
  right : (p.x +ℤ coordinate_limit) ≤ℤ pos e.right
  bottom : pos e.bottom ≤ℤ (p.y +ℤ coordinate_limit)
  top : (p.y +ℤ coordinate_limit) ≤ℤ pos e.top

-- where q is right of both ends of a side that rises past it, it isn't left of the side
pub right_of : (a b q : Position) → a.y ≤ℤ q.y → q.y <ℤ b.y → a.x <ℤ q.x → b.x <ℤ q.x → is_left a b q ≡ false
right_of a b q low high left right =
    let h = two_products (q.x -ℤ b.x) (q.y -ℤ a.y) (b.y -ℤ q.y) (q.x -ℤ a.x) (omega (arith, ints)) (omega (arith, ints)) (omega (arith, ints)) (omega (arith, ints)) in
    ap (λ (z : ℤ). int_lt (pos 0) z) (away a b q) ∙ not_less _ h
  where
    away : (a b q : Position) → orientation a b q ≡ neg_ℤ ((q.x -ℤ b.x) *ℤ (q.y -ℤ a.y) +ℤ (b.y -ℤ q.y) *ℤ (q.x -ℤ a.x))
    away a b q =
        let AX = var 0 in let AY = var 1 in let BX = var 2 in let BY = var 3 in let QX = var 4 in let QY = var 5 in
        by_parts (a.x ∷ a.y ∷ b.x ∷ b.y ∷ q.x ∷ q.y ∷ []) ((BX ⊟ AX) ⊠ (QY ⊟ AY) ⊟ (BY ⊟ AY) ⊠ (QX ⊟ AX))
        (num (pos 0) ⊟ ((QX ⊟ BX) ⊠ (QY ⊟ AY) ⊞ (BY ⊟ QY) ⊠ (QX ⊟ AX))) (omega arith)
        ∙ omega (arith, ints)

    not_less : (z : ℤ) → pos 0 <ℤ z → int_lt (pos 0) (neg_ℤ z) ≡ false
    not_less z h = grind (arith, ints)

upwards-not_past : (e : Extent) (a b q : Position) → IsWithin e a → IsWithin e b → is_counted_upwards a b q ≡ true → IsNotPast e q
upwards-not_past e a b q wa wb h =
    let rises = rises_past a b q h in
    let low = rises.0 in let high = rises.1 in let is_left_of = rises.2 in
    let a_right = wa.right in let b_right = wb.right in let a_bottom = wa.bottom in let b_top = wb.top in
    record {
      right = by_lt_z (pos e.right) (q.x +ℤ coordinate_limit)
          (λ past. absurd (true≢false (sym is_left_of ∙ right_of a b q low high (omega (arith, ints)) (omega (arith, ints))))) (λ not_past. not_past);
      bottom = omega (arith, ints);
      top = omega (arith, ints);
    }

counted-not_past : (e : Extent) (a b q : Position) → IsWithin e a → IsWithin e b → is_counted a b q ≡ true → IsNotPast e q
counted-not_past e a b q wa wb h = by (is_counted_upwards a b q) refl h
  where
    by : (s : Bool) → is_counted_upwards a b q ≡ s → (s || is_counted_upwards b a q) ≡ true → IsNotPast e q
    by true up h = upwards-not_past e a b q wa wb up
    by false up h = upwards-not_past e b a q wb wa h

-- where q is inside, some side is counted there
inside-not_past : (e : Extent) (sides : List (Position × Position)) (q : Position) → AllByRecursion (λ s. IsWithin e s.0 × IsWithin e s.1) sides → is_inside sides q ≡ true → IsNotPast e q
inside-not_past e [] q all h = absurd (true≢false (sym h))
inside-not_past e (side ∷ sides) q all h = by (is_counted side.0 side.1 q) refl (sym (inside-cons side sides q) ∙ h) (λ k. inside-not_past e sides q all.1 k)
  where
    by : (s : Bool) → is_counted side.0 side.1 q ≡ s → differ (is_counted side.0 side.1 q) (is_inside sides q) ≡ true → (is_inside sides q ≡ true → IsNotPast e q) → IsNotPast e q
    by true is h rest = counted-not_past e side.0 side.1 q all.0.0 all.0.1 is
    by false is h rest = rest (rw is at h)

-- what is inside a ring is in a box that its sides are in
pub inside-within : (position : ℕ → Position) (ring : Ring) (e : Extent) (q : Position) → AllByRecursion (λ s. IsWithin e s.0 × IsWithin e s.1) (placed position (sides_of ring))
    → is_inside (placed position (sides_of ring)) q ≡ true → IsWithin e q
inside-within position ring e q all h =
    let sides = placed position (sides_of ring) in
    let past = inside-not_past e sides q all h in
    record {
      left = by_lt_z (q.x +ℤ coordinate_limit) (pos e.left) (λ left. absurd (true≢false (sym h ∙ not_inside position q ring (right left sides all)))) (λ within. within);
      right = past.right;
      bottom = past.bottom;
      top = past.top;
    }
  where
    right : (q.x +ℤ coordinate_limit) <ℤ pos e.left → (sides : List (Position × Position)) → AllByRecursion (λ s. IsWithin e s.0 × IsWithin e s.1) sides → AllByRecursion (IsRight position q) sides
    right left [] all = tt
    right left (s ∷ sides) all = let a = all.0.0.left in let b = all.0.1.left in ((omega (arith, ints), omega (arith, ints)), right left sides all.1)
