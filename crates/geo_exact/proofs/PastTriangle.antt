-- A segment that comes into a triangle, and has no end there, leaves it through another side.
use Rattle.std.proofs.Common.{Bool, true, false, ◌≡◌, ℕ, zero, suc, ◌+◌, ◌-◌, ◌<◌, refl, sym, ◌∙◌, ap, List, [], ◌∷◌, ℤ, pos, negsuc, ◌+ℤ◌, ◌-ℤ◌, ◌*ℤ◌, neg_ℤ, ◌<ℤ◌, ◌≤ℤ◌, arith, ◌⊎◌, inl, inr}
use Rattle.std.proofs.lemmas.Int.{ints, by_lt_z}
use Rattle.geo_exact.specs.Position.{Position}
use Rattle.std.specs.Prelude.{◌&&◌, ◌||◌, int_lt, if◌then◌else◌}
use Rattle.std.proofs.lemmas.Bool.{and_parts}
use Rattle.geo_exact.specs.Orientation.{orientation, is_left, is_right}
use Rattle.geo_exact.specs.Segment.{HaveCommonLocation, IsOnSegment}
use Rattle.geo_exact.specs.Triangle.{is_outside}
use Rattle.geo_exact.proofs.Meeting.{Straddle, signs_from_location, location_from_straddles, swap_first, swap_second, backwards}
use Rattle.geo_exact.proofs.Toolbox.{by_parts, var, num, ◌⊞◌, ◌⊟◌, ◌⊠◌, positive-positive, positive-negative, zero-times}

-- ---- What signs tell

not_negative : (x y : ℤ) → pos 0 ≤ℤ x → pos 0 ≤ℤ y → pos 0 ≤ℤ (x *ℤ y)
not_negative (pos m) (pos n) h k = omega (arith, ints)
not_negative (pos m) (negsuc n) h k = absurd (omega (arith, ints))
not_negative (negsuc m) y h k = absurd (omega (arith, ints))

not_positive : (x y : ℤ) → x ≤ℤ pos 0 → y ≤ℤ pos 0 → pos 0 ≤ℤ (x *ℤ y)
not_positive (pos zero) y h k = omega (arith, zero-times (pos 0) y refl, ints)
not_positive (pos (suc m)) y h k = absurd (omega (arith, ints))
not_positive (negsuc m) (pos zero) h k = omega (arith, ints)
not_positive (negsuc m) (pos (suc n)) h k = absurd (omega (arith, ints))
not_positive (negsuc m) (negsuc n) h k = omega (arith, ints)

-- three products of which the first two add up to more than nothing and the third isn't less
no_balance : (u x v y w z : ℤ) → u *ℤ x +ℤ v *ℤ y +ℤ w *ℤ z ≡ pos 0 → pos 0 ≤ℤ u → pos 0 <ℤ x → pos 0 ≤ℤ v → pos 0 <ℤ y → pos 0 <ℤ (u +ℤ v)
    → w ≤ℤ pos 0 → z ≤ℤ pos 0 → ⊥
no_balance u x v y w z none hu hx hv hy some hw hz =
    let third = not_positive w z hw hz in
    by_lt_z (pos 0) u
    (λ more. let first = positive-positive u x more hx in let second = not_negative v y hv (omega (arith, ints)) in no_sum (u *ℤ x) (v *ℤ y) (w *ℤ z) none (omega (arith, ints)) second third (inl first))
    (λ less.
    let first = not_negative u x hu (omega (arith, ints)) in let second = positive-positive v y (omega (arith, ints)) hy in
    no_sum (u *ℤ x) (v *ℤ y) (w *ℤ z) none first (omega (arith, ints)) third (inr second))
  where
    no_sum : (a b c : ℤ) → a +ℤ b +ℤ c ≡ pos 0 → pos 0 ≤ℤ a → pos 0 ≤ℤ b → pos 0 ≤ℤ c → (pos 0 <ℤ a) ⊎ (pos 0 <ℤ b) → ⊥
    no_sum a b c e ha hb hc (inl h) = omega (arith, ints)
    no_sum a b c e ha hb hc (inr h) = omega (arith, ints)

-- a sum of three products that is nothing is so with all second factors negated
negated : (b p c q a r : ℤ) → b *ℤ p +ℤ c *ℤ q +ℤ a *ℤ r ≡ pos 0 → b *ℤ neg_ℤ p +ℤ c *ℤ neg_ℤ q +ℤ a *ℤ neg_ℤ r ≡ pos 0
negated b p c q a r h = (λ i. product b p i +ℤ product c q i +ℤ product a r i) ∙ sum (b *ℤ p) (c *ℤ q) (a *ℤ r) h
  where
    less : (z : ℤ) → neg_ℤ z ≡ pos 0 -ℤ z
    less z = omega (arith, ints)

    product : (x y : ℤ) → x *ℤ neg_ℤ y ≡ pos 0 -ℤ x *ℤ y
    product x y = ap (λ (z : ℤ). x *ℤ z) (less y) ∙ by_parts (x ∷ y ∷ []) (var 0 ⊠ (num (pos 0) ⊟ var 1)) (num (pos 0) ⊟ var 0 ⊠ var 1) (omega arith)

    sum : (x y z : ℤ) → x +ℤ y +ℤ z ≡ pos 0 → (pos 0 -ℤ x) +ℤ (pos 0 -ℤ y) +ℤ (pos 0 -ℤ z) ≡ pos 0
    sum x y z h = omega (arith, ints)

-- both on one side, or straddling
straddles_or : (p q : ℤ) → ((pos 0 <ℤ p) × (pos 0 <ℤ q)) ⊎ (((p <ℤ pos 0) × (q <ℤ pos 0)) ⊎ Straddle p q)
straddles_or p q =
    by_lt_z (pos 0) p
    (λ hp. by_lt_z (pos 0) q (λ hq. inl (hp, hq))
    (λ hq. inr (inr (record { not_left = λ _ k. omega (arith, ints); not_right = λ k _. omega (arith, ints) }))))
    (λ hp. by_lt_z p (pos 0)
    (λ np. by_lt_z q (pos 0) (λ nq. inr (inl (np, nq)))
    (λ nq. inr (inr (record { not_left = λ k _. omega (arith, ints); not_right = λ _ k. omega (arith, ints) }))))
    (λ np. inr (inr (record { not_left = λ k _. omega (arith, ints); not_right = λ k _. omega (arith, ints) }))))

-- With p, q and r how far the corners are from a line through a point, and a, b and c how far the point is from the
-- sides that lie opposite to r, p and q: where the point is beyond one of the first two sides, the line crosses it.
crosses_side : (p q r a b c : ℤ) → b *ℤ p +ℤ c *ℤ q +ℤ a *ℤ r ≡ pos 0 → pos 0 <ℤ (a +ℤ b +ℤ c) → pos 0 ≤ℤ c → (a <ℤ pos 0) ⊎ (b <ℤ pos 0)
    → Straddle p r → ((a <ℤ pos 0) × Straddle p q) ⊎ ((b <ℤ pos 0) × Straddle q r)
crosses_side p q r a b c none some hc beyond pr =
    by_lt_z a (pos 0)
    (λ ha. elim (straddles_or p q) [
      | inl both ↦ by_lt_z b (pos 0)
          (λ hb. inr (hb, record { not_left = λ _ k. pr.not_left both.0 k; not_right = λ k _. below_above q both.1 k }))
          (λ hb. absurd (no_balance b p c q a r none hb both.0 hc both.1 (omega (arith, ints)) (omega (arith, ints))
          (by_lt_z (pos 0) r (λ k. absurd (pr.not_left both.0 k)) (λ k. k))))
      | inr (inl both) ↦ by_lt_z b (pos 0)
          (λ hb. inr (hb, record { not_left = λ k _. below_above q k both.1; not_right = λ _ k. pr.not_right both.0 k }))
          (λ hb. absurd (no_balance b (neg_ℤ p) c (neg_ℤ q) a (neg_ℤ r) (negated b p c q a r none) hb (above p both.0) hc (above q both.1)
          (omega (arith, ints)) (omega (arith, ints)) (by_lt_z r (pos 0) (λ k. absurd (pr.not_right both.0 k)) (λ k. below r k))))
      | inr (inr s) ↦ inl (ha, s)
    ])
    (λ ha. elim (straddles_or q r) [
      | inl both ↦ absurd (no_balance c q a r b p (rotated b p c q a r none) hc both.0 ha both.1
          (elim beyond [ inl k ↦ absurd (below_not a k ha) | inr k ↦ omega (arith, ints) ]) (elim beyond [ inl k ↦ absurd (below_not a k ha) | inr k ↦ omega (arith, ints) ])
          (by_lt_z (pos 0) p (λ k. absurd (pr.not_left k both.1)) (λ k. k)))
      | inr (inl both) ↦ absurd (no_balance c (neg_ℤ q) a (neg_ℤ r) b (neg_ℤ p) (rotated b (neg_ℤ p) c (neg_ℤ q) a (neg_ℤ r) (negated b p c q a r none))
          hc (above q both.0) ha (above r both.1)
          (elim beyond [ inl k ↦ absurd (below_not a k ha) | inr k ↦ omega (arith, ints) ]) (elim beyond [ inl k ↦ absurd (below_not a k ha) | inr k ↦ omega (arith, ints) ])
          (by_lt_z p (pos 0) (λ k. absurd (pr.not_right k both.1)) (λ k. below p k)))
      | inr (inr s) ↦ inr (elim beyond [ inl k ↦ absurd (below_not a k ha) | inr k ↦ k ], s)
    ])
  where
    below_above : (z : ℤ) → pos 0 <ℤ z → z <ℤ pos 0 → ⊥
    below_above z h k = omega (arith, ints)

    below_not : (z : ℤ) → z <ℤ pos 0 → pos 0 ≤ℤ z → ⊥
    below_not z h k = omega (arith, ints)

    above : (z : ℤ) → z <ℤ pos 0 → pos 0 <ℤ (neg_ℤ z)
    above z h = omega (arith, ints)

    below : (z : ℤ) → pos 0 ≤ℤ z → neg_ℤ z ≤ℤ pos 0
    below z h = omega (arith, ints)

    rotated : (b p c q a r : ℤ) → b *ℤ p +ℤ c *ℤ q +ℤ a *ℤ r ≡ pos 0 → c *ℤ q +ℤ a *ℤ r +ℤ b *ℤ p ≡ pos 0
    rotated b p c q a r h = sum3 (b *ℤ p) (c *ℤ q) (a *ℤ r) h
      where
        sum3 : (x y z : ℤ) → x +ℤ y +ℤ z ≡ pos 0 → y +ℤ z +ℤ x ≡ pos 0
        sum3 x y z h = omega (arith, ints)

-- ---- What is so of the corners and the ends

-- a line that has neither end of one segment on its right doesn't have the other segment there
none_right : (u v a b c d : Position) → HaveCommonLocation a b c d → pos 0 ≤ℤ orientation u v a → pos 0 ≤ℤ orientation u v b
    → orientation u v c <ℤ pos 0 → orientation u v d <ℤ pos 0 → ⊥
none_right u v a b c d h ha hb hc hd =
    let r = h.n - h.s in let q = h.n - h.t in
    let le_s = h.on_first in let le_t = h.on_second in
    let rs : h.n ≡ r + h.s = omega arith in
    let qt : h.n ≡ q + h.t = omega arith in
    let some : 0 < q + h.t = (let k = h.some in omega arith) in
    let hx : (pos r +ℤ pos h.s) *ℤ a.x +ℤ pos h.s *ℤ (b.x -ℤ a.x) ≡ (pos q +ℤ pos h.t) *ℤ c.x +ℤ pos h.t *ℤ (d.x -ℤ c.x) =
    (λ i. pos (sym rs i) *ℤ a.x +ℤ pos h.s *ℤ (b.x -ℤ a.x)) ∙ ap (λ (p : Position). p.x) h.same ∙ (λ i. pos (qt i) *ℤ c.x +ℤ pos h.t *ℤ (d.x -ℤ c.x)) in
    let hy : (pos r +ℤ pos h.s) *ℤ a.y +ℤ pos h.s *ℤ (b.y -ℤ a.y) ≡ (pos q +ℤ pos h.t) *ℤ c.y +ℤ pos h.t *ℤ (d.y -ℤ c.y) =
    (λ i. pos (sym rs i) *ℤ a.y +ℤ pos h.s *ℤ (b.y -ℤ a.y)) ∙ ap (λ (p : Position). p.y) h.same ∙ (λ i. pos (qt i) *ℤ c.y +ℤ pos h.t *ℤ (d.y -ℤ c.y)) in
    let sum = weighed (pos r) (pos h.s) (pos q) (pos h.t) u v a b c d (ap pos (sym rs ∙ qt)) hx hy in
    let first = not_negative (pos r) (orientation u v a) (omega (arith, ints)) ha in
    let second = not_negative (pos h.s) (orientation u v b) (omega (arith, ints)) hb in
    let less = some_negative q h.t (orientation u v c) (orientation u v d) some hc hd in
    no_sum (pos r *ℤ orientation u v a) (pos h.s *ℤ orientation u v b) (pos q *ℤ orientation u v c +ℤ pos h.t *ℤ orientation u v d) sum first second less
  where
    no_sum : (x y z : ℤ) → x +ℤ y ≡ z → pos 0 ≤ℤ x → pos 0 ≤ℤ y → z <ℤ pos 0 → ⊥
    no_sum x y z e hx hy hz = omega (arith, ints)

    some_negative : (q t : ℕ) (x y : ℤ) → 0 < q + t → x <ℤ pos 0 → y <ℤ pos 0 → (pos q *ℤ x +ℤ pos t *ℤ y) <ℤ pos 0
    some_negative zero zero x y h hx hy = absurd (omega arith)
    some_negative zero (suc t) x y h hx hy = let k1 = zero-times (pos 0) x refl in let k2 = positive-negative (pos (suc t)) y (omega (arith, ints)) hy in omega (arith, k1, k2, ints)
    some_negative (suc q) zero x y h hx hy = let k1 = positive-negative (pos (suc q)) x (omega (arith, ints)) hx in let k2 = zero-times (pos 0) y refl in omega (arith, k1, k2, ints)
    some_negative (suc q) (suc t) x y h hx hy =
        let k1 = positive-negative (pos (suc q)) x (omega (arith, ints)) hx in let k2 = positive-negative (pos (suc t)) y (omega (arith, ints)) hy in omega (arith, k1, k2, ints)

    -- how far the common location is from the line, by the one segment and by the other
    weighed : (r s q t : ℤ) (u v a b c d : Position) → r +ℤ s ≡ q +ℤ t
        → (r +ℤ s) *ℤ a.x +ℤ s *ℤ (b.x -ℤ a.x) ≡ (q +ℤ t) *ℤ c.x +ℤ t *ℤ (d.x -ℤ c.x)
        → (r +ℤ s) *ℤ a.y +ℤ s *ℤ (b.y -ℤ a.y) ≡ (q +ℤ t) *ℤ c.y +ℤ t *ℤ (d.y -ℤ c.y)
        → r *ℤ orientation u v a +ℤ s *ℤ orientation u v b ≡ q *ℤ orientation u v c +ℤ t *ℤ orientation u v d
    weighed r s q t u v a b c d n hx hy =
        let R = var 0 in let S = var 1 in let EX = var 2 in let EY = var 3 in let UX = var 4 in let UY = var 5 in let AX = var 6 in let AY = var 7 in let BX = var 8 in let BY = var 9 in
        let far = λ (m lx ly : ℤ). (v.x -ℤ u.x) *ℤ (ly -ℤ m *ℤ u.y) -ℤ (v.y -ℤ u.y) *ℤ (lx -ℤ m *ℤ u.x) in
        let on = λ (r s : ℤ) (a b : Position). by_parts (r ∷ s ∷ (v.x -ℤ u.x) ∷ (v.y -ℤ u.y) ∷ u.x ∷ u.y ∷ a.x ∷ a.y ∷ b.x ∷ b.y ∷ [])
        (R ⊠ (EX ⊠ (AY ⊟ UY) ⊟ EY ⊠ (AX ⊟ UX)) ⊞ S ⊠ (EX ⊠ (BY ⊟ UY) ⊟ EY ⊠ (BX ⊟ UX)))
        (EX ⊠ (((R ⊞ S) ⊠ AY ⊞ S ⊠ (BY ⊟ AY)) ⊟ (R ⊞ S) ⊠ UY) ⊟ EY ⊠ (((R ⊞ S) ⊠ AX ⊞ S ⊠ (BX ⊟ AX)) ⊟ (R ⊞ S) ⊠ UX)) (omega arith) in
        on r s a b ∙ (λ i. far (n i) (hx i) (hy i)) ∙ sym (on q t c d)

-- a corner is on each line through it
on_line-first : (u v : Position) → orientation u v u ≡ pos 0
on_line-first u v = by_parts (u.x ∷ u.y ∷ v.x ∷ v.y ∷ []) ((var 2 ⊟ var 0) ⊠ (var 1 ⊟ var 1) ⊟ (var 3 ⊟ var 1) ⊠ (var 0 ⊟ var 0)) (num (pos 0)) (omega arith)

on_line-last : (u v : Position) → orientation u v v ≡ pos 0
on_line-last u v = by_parts (u.x ∷ u.y ∷ v.x ∷ v.y ∷ []) ((var 2 ⊟ var 0) ⊠ (var 3 ⊟ var 1) ⊟ (var 3 ⊟ var 1) ⊠ (var 2 ⊟ var 0)) (num (pos 0)) (omega arith)

-- a triangle has the same area from each of its corners
turned_area : (u v w : Position) → orientation v w u ≡ orientation u v w
turned_area u v w =
    let UX = var 0 in let UY = var 1 in let VX = var 2 in let VY = var 3 in let WX = var 4 in let WY = var 5 in
    by_parts (u.x ∷ u.y ∷ v.x ∷ v.y ∷ w.x ∷ w.y ∷ []) ((WX ⊟ VX) ⊠ (UY ⊟ VY) ⊟ (WY ⊟ VY) ⊠ (UX ⊟ VX)) ((VX ⊟ UX) ⊠ (WY ⊟ UY) ⊟ (VY ⊟ UY) ⊠ (WX ⊟ UX)) (omega arith)

-- c is as far from the three sides as they make up the triangle
three_areas : (q a b c : Position) → orientation q a c +ℤ orientation a b c +ℤ orientation b q c ≡ orientation q a b
three_areas q a b c =
    let QX = var 0 in let QY = var 1 in let AX = var 2 in let AY = var 3 in let BX = var 4 in let BY = var 5 in let CX = var 6 in let CY = var 7 in
    by_parts (q.x ∷ q.y ∷ a.x ∷ a.y ∷ b.x ∷ b.y ∷ c.x ∷ c.y ∷ [])
    ((AX ⊟ QX) ⊠ (CY ⊟ QY) ⊟ (AY ⊟ QY) ⊠ (CX ⊟ QX) ⊞ ((BX ⊟ AX) ⊠ (CY ⊟ AY) ⊟ (BY ⊟ AY) ⊠ (CX ⊟ AX)) ⊞ ((QX ⊟ BX) ⊠ (CY ⊟ BY) ⊟ (QY ⊟ BY) ⊠ (CX ⊟ BX)))
    ((AX ⊟ QX) ⊠ (BY ⊟ QY) ⊟ (AY ⊟ QY) ⊠ (BX ⊟ QX)) (omega arith)

-- how far c is from a line, from c
turned_to : (u v c : Position) → orientation u v c ≡ (u.x -ℤ c.x) *ℤ (v.y -ℤ c.y) -ℤ (u.y -ℤ c.y) *ℤ (v.x -ℤ c.x)
turned_to u v c = by_parts (u.x ∷ u.y ∷ v.x ∷ v.y ∷ c.x ∷ c.y ∷ [])
    ((var 2 ⊟ var 0) ⊠ (var 5 ⊟ var 1) ⊟ (var 3 ⊟ var 1) ⊠ (var 4 ⊟ var 0)) ((var 0 ⊟ var 4) ⊠ (var 3 ⊟ var 5) ⊟ (var 1 ⊟ var 5) ⊠ (var 2 ⊟ var 4)) (omega arith)

-- A line from c on: how far the corners are from it, each weighted by the side that lies opposite.
weighted_corners : (q a b c d : Position)
    → orientation a b c *ℤ orientation c d q +ℤ orientation b q c *ℤ orientation c d a +ℤ orientation q a c *ℤ orientation c d b ≡ pos 0
weighted_corners q a b c d =
    let EX = var 0 in let EY = var 1 in let QX = var 2 in let QY = var 3 in let AX = var 4 in let AY = var 5 in let BX = var 6 in let BY = var 7 in
    (λ i. turned_to a b c i *ℤ orientation c d q +ℤ turned_to b q c i *ℤ orientation c d a +ℤ turned_to q a c i *ℤ orientation c d b)
    ∙ by_parts ((d.x -ℤ c.x) ∷ (d.y -ℤ c.y) ∷ (q.x -ℤ c.x) ∷ (q.y -ℤ c.y) ∷ (a.x -ℤ c.x) ∷ (a.y -ℤ c.y) ∷ (b.x -ℤ c.x) ∷ (b.y -ℤ c.y) ∷ [])
    (((AX ⊠ BY ⊟ AY ⊠ BX) ⊠ (EX ⊠ QY ⊟ EY ⊠ QX)) ⊞ ((BX ⊠ QY ⊟ BY ⊠ QX) ⊠ (EX ⊠ AY ⊟ EY ⊠ AX)) ⊞ ((QX ⊠ AY ⊟ QY ⊠ AX) ⊠ (EX ⊠ BY ⊟ EY ⊠ BX)))
    (num (pos 0)) (omega arith)

-- seen from either line the other's ends are as far apart
same_turn : (u v c d : Position) → orientation u v d -ℤ orientation u v c ≡ orientation c d u -ℤ orientation c d v
same_turn u v c d =
    let AX = var 0 in let BX = var 1 in let AY = var 2 in let BY = var 3 in let CX = var 4 in let CY = var 5 in let DX = var 6 in let DY = var 7 in
    by_parts (u.x ∷ v.x ∷ u.y ∷ v.y ∷ c.x ∷ c.y ∷ d.x ∷ d.y ∷ [])
    (((BX ⊟ AX) ⊠ (DY ⊟ AY) ⊟ (BY ⊟ AY) ⊠ (DX ⊟ AX)) ⊟ ((BX ⊟ AX) ⊠ (CY ⊟ AY) ⊟ (BY ⊟ AY) ⊠ (CX ⊟ AX)))
    (((DX ⊟ CX) ⊠ (AY ⊟ CY) ⊟ (DY ⊟ CY) ⊠ (AX ⊟ CX)) ⊟ ((DX ⊟ CX) ⊠ (BY ⊟ CY) ⊟ (DY ⊟ CY) ⊠ (BX ⊟ CX))) (omega arith)

-- a side whose line c lies right of, and d not, is crossed if its ends straddle the line from c to d
crossed_side : (u v c d : Position) → orientation u v c <ℤ pos 0 → ¬ (orientation u v d <ℤ pos 0) → Straddle (orientation c d u) (orientation c d v)
    → HaveCommonLocation u v c d
crossed_side u v c d right not_right straddle =
    location_from_straddles u v c d straddle
    (record { not_left = λ k _. contrary (orientation u v c) right k; not_right = λ _ k. not_right k })
    (λ same. not_right (as_far (orientation u v c) (orientation u v d) (orientation c d u) (orientation c d v) (same_turn u v c d) same right))
  where
    contrary : (z : ℤ) → z <ℤ pos 0 → pos 0 <ℤ z → ⊥
    contrary z h k = omega (arith, ints)

    as_far : (x y p p' : ℤ) → y -ℤ x ≡ p -ℤ p' → p ≡ p' → x <ℤ pos 0 → y <ℤ pos 0
    as_far x y p p' e same h = omega (arith, ints)

-- ---- The triangle

-- c is outside of a triangle whose corners stand counterclockwise
abbrev IsRightOfSide : Position → Position → Position → Position → Type 0
IsRightOfSide q a b c = (orientation q a c <ℤ pos 0) ⊎ ((orientation a b c <ℤ pos 0) ⊎ (orientation b q c <ℤ pos 0))

-- of the two ends c isn't outside of the side that the segment comes through
comes_in : (q a b c d : Position) → pos 0 <ℤ orientation q a b → IsRightOfSide q a b c → pos 0 ≤ℤ orientation b q c
    → HaveCommonLocation q b c d → ¬ HaveCommonLocation q a c d → ¬ HaveCommonLocation a b c d → ⊥
comes_in q a b c d some outside inner h not_first not_second =
    let signs = signs_from_location q b c d h in
    let sum = three_areas q a b c in
    elim (crosses_side (orientation c d q) (orientation c d a) (orientation c d b) (orientation q a c) (orientation a b c) (orientation b q c)
    (weighted_corners q a b c d) (more (orientation q a c) (orientation a b c) (orientation b q c) (orientation q a b) sum some) inner
    (elim outside [ inl k ↦ inl k | inr rest ↦ elim rest [ inl k ↦ inr k | inr k ↦ absurd (contrary (orientation b q c) k inner) ] ])
    signs.first) [
      | inl first ↦ not_first (crossed_side q a c d first.0
          (λ k. none_right q a q b c d h (equal (orientation q a q) (on_line-first q a)) (less (orientation q a b) some) first.0 k) first.1)
      | inr second ↦ not_second (crossed_side a b c d second.0
          (λ k. none_right a b q b c d h (above (orientation a b q) (orientation q a b) (turned_area q a b) some) (equal (orientation a b b) (on_line-last a b)) second.0 k) second.1)
    ]
  where
    more : (x y z w : ℤ) → x +ℤ y +ℤ z ≡ w → pos 0 <ℤ w → pos 0 <ℤ (x +ℤ y +ℤ z)
    more x y z w e h = omega (arith, ints)

    contrary : (z : ℤ) → z <ℤ pos 0 → pos 0 ≤ℤ z → ⊥
    contrary z h k = omega (arith, ints)

    equal : (z : ℤ) → z ≡ pos 0 → pos 0 ≤ℤ z
    equal z e = omega (arith, ints)

    less : (z : ℤ) → pos 0 <ℤ z → pos 0 ≤ℤ z
    less z h = omega (arith, ints)

    above : (y z : ℤ) → y ≡ z → pos 0 <ℤ z → pos 0 ≤ℤ y
    above y z e h = omega (arith, ints)

-- the other end of the segment may be the one that isn't
passes : (q a b c d : Position) → pos 0 <ℤ orientation q a b → IsRightOfSide q a b c → IsRightOfSide q a b d → ¬ HaveCommonLocation q a c d → ¬ HaveCommonLocation a b c d
    → ¬ HaveCommonLocation q b c d
passes q a b c d some c_out d_out not_first not_second h =
    by_lt_z (orientation b q c) (pos 0)
    (λ hc. by_lt_z (orientation b q d) (pos 0)
    (λ hd. none_right b q q b c d h (none (orientation b q q) (on_line-last b q)) (none (orientation b q b) (on_line-first b q)) hc hd)
    (λ hd. comes_in q a b d c some d_out hd (swap_second q b d c h) (λ k. not_first (swap_second q a c d k)) (λ k. not_second (swap_second a b c d k))))
    (λ hc. comes_in q a b c d some c_out hc h not_first not_second)
  where
    none : (z : ℤ) → z ≡ pos 0 → pos 0 ≤ℤ z
    none z e = omega (arith, ints)

-- ---- What lies outside

-- of a triangle with area, whose corners stand clockwise or counterclockwise
data LiesOutside (q a b c : Position) : Type 0 where
  counterclockwise : pos 0 <ℤ orientation q a b → IsRightOfSide q a b c → LiesOutside q a b c
  clockwise : pos 0 <ℤ orientation b a q → IsRightOfSide b a q c → LiesOutside q a b c

either : (x y : Bool) → (x || y) ≡ true → (x ≡ true) ⊎ (y ≡ true)
either true y h = inl refl
either false y h = inr h

is_above : (z : ℤ) → int_lt (pos 0) z ≡ true → pos 0 <ℤ z
is_above z h = grind (arith, ints)

is_below : (z : ℤ) → int_lt z (pos 0) ≡ true → z <ℤ pos 0
is_below z h = grind (arith, ints)

-- a triangle that runs clockwise runs counterclockwise the other way around
around : (q a b : Position) → orientation q a b <ℤ pos 0 → pos 0 <ℤ orientation b a q
around q a b h = negated (orientation b a q) (orientation a b q) (orientation q a b) (backwards a b q) (turned_area q a b) h
  where
    negated : (x y z : ℤ) → x ≡ neg_ℤ y → y ≡ z → z <ℤ pos 0 → pos 0 <ℤ x
    negated x y z e f h = omega (arith, ints)

outside-lies : (q a b c : Position) → is_outside q a b c ≡ true → LiesOutside q a b c
outside-lies q a b c is = by (is_left q a b) refl is
  where
    exchanged : (u v w : Position) → pos 0 <ℤ orientation u v w → orientation v u w <ℤ pos 0
    exchanged u v w h = let k = backwards u v w in negated (orientation v u w) (orientation u v w) k h
      where
        negated : (x y : ℤ) → x ≡ neg_ℤ y → pos 0 <ℤ y → x <ℤ pos 0
        negated x y e h = omega (arith, ints)

    by : (left : Bool) → is_left q a b ≡ left
        → (if left then (is_right q a c || (is_right a b c || is_right b q c)) else (is_right q a b && (is_left q a c || (is_left a b c || is_left b q c)))) ≡ true
        → LiesOutside q a b c
    by true is out = counterclockwise (is_above (orientation q a b) is) (elim (either (is_right q a c) (is_right a b c || is_right b q c) out) [
      | inl h ↦ inl (is_below (orientation q a c) h)
      | inr rest ↦ elim (either (is_right a b c) (is_right b q c) rest) [ inl h ↦ inr (inl (is_below (orientation a b c) h)) | inr h ↦ inr (inr (is_below (orientation b q c) h)) ]
    ])
    by false is out =
        let parts = and_parts (is_right q a b) (is_left q a c || (is_left a b c || is_left b q c)) out in
        clockwise (around q a b (is_below (orientation q a b) parts.0)) (elim (either (is_left q a c) (is_left a b c || is_left b q c) parts.1) [
          | inl h ↦ inr (inl (exchanged q a c (is_above (orientation q a c) h)))
          | inr rest ↦ elim (either (is_left a b c) (is_left b q c) rest) [
            | inl h ↦ inl (exchanged a b c (is_above (orientation a b c) h))
            | inr h ↦ inr (inr (exchanged b q c (is_above (orientation b q c) h)))
          ]
        ])

-- Neither end of a segment lies in a triangle, and it meets two of its sides not: then it doesn't meet the third.
pub passes_triangle : (q a b c d : Position) → is_outside q a b c ≡ true → is_outside q a b d ≡ true → ¬ HaveCommonLocation q a c d → ¬ HaveCommonLocation a b c d
    → ¬ HaveCommonLocation q b c d
passes_triangle q a b c d c_out d_out not_first not_second h = by (outside-lies q a b c c_out) (outside-lies q a b d d_out)
  where
    one_way : pos 0 <ℤ orientation q a b → pos 0 <ℤ orientation b a q → ⊥
    one_way h k = both (orientation b a q) (orientation a b q) (orientation q a b) (backwards a b q) (turned_area q a b) h k
      where
        both : (x y z : ℤ) → x ≡ neg_ℤ y → y ≡ z → pos 0 <ℤ z → pos 0 <ℤ x → ⊥
        both x y z e f h k = omega (arith, ints)

    by : LiesOutside q a b c → LiesOutside q a b d → ⊥
    by (counterclockwise some c_right) (counterclockwise _ d_right) = passes q a b c d some c_right d_right not_first not_second h
    by (counterclockwise some _) (clockwise other _) = one_way some other
    by (clockwise other _) (counterclockwise some _) = one_way some other
    by (clockwise some c_right) (clockwise _ d_right) =
        passes b a q c d some c_right d_right (λ k. not_second (swap_first a b c d k)) (λ k. not_first (swap_first q a c d k)) (swap_first b q c d h)

-- what lies outside of a triangle doesn't lie on its third side
pub outside-not_on : (q a b c : Position) → is_outside q a b c ≡ true → ¬ IsOnSegment q b c
outside-not_on q a b c out h = by (outside-lies q a b c out)
  where
    none : (z : ℤ) → z ≡ pos 0 → pos 0 ≤ℤ z
    none z e = omega (arith, ints)

    some : (y z : ℤ) → y ≡ z → pos 0 <ℤ z → pos 0 ≤ℤ y
    some y z e h = omega (arith, ints)

    beyond : (q b : Position) → HaveCommonLocation q b c c → pos 0 <ℤ orientation q a b → IsRightOfSide q a b c → ⊥
    beyond q b h area (inl k) = none_right q a q b c c h (none (orientation q a q) (on_line-first q a)) (some (orientation q a b) (orientation q a b) refl area) k k
    beyond q b h area (inr (inl k)) =
        none_right a b q b c c h (some (orientation a b q) (orientation q a b) (turned_area q a b) area) (none (orientation a b b) (on_line-last a b)) k k
    beyond q b h area (inr (inr k)) = none_right b q q b c c h (none (orientation b q q) (on_line-last b q)) (none (orientation b q b) (on_line-first b q)) k k

    by : LiesOutside q a b c → ⊥
    by (counterclockwise area right) = beyond q b h area right
    by (clockwise area right) = beyond b q (swap_first b q c c h) area right

-- ---- What lies outside of a box

-- c lies beyond all three corners to the east, to the west, to the north or to the south
pub data IsBeyond (q a b c : Position) : Type 0 where
  east : q.x <ℤ c.x → a.x <ℤ c.x → b.x <ℤ c.x → IsBeyond q a b c
  west : c.x <ℤ q.x → c.x <ℤ a.x → c.x <ℤ b.x → IsBeyond q a b c
  north : q.y <ℤ c.y → a.y <ℤ c.y → b.y <ℤ c.y → IsBeyond q a b c
  south : c.y <ℤ q.y → c.y <ℤ a.y → c.y <ℤ b.y → IsBeyond q a b c

-- weights that aren't all nothing, and distances that are all in one direction
no_weights : (u v w x y z : ℤ) → u *ℤ x +ℤ v *ℤ y +ℤ w *ℤ z ≡ pos 0 → pos 0 ≤ℤ u → pos 0 ≤ℤ v → pos 0 ≤ℤ w → pos 0 <ℤ (u +ℤ v +ℤ w)
    → pos 0 <ℤ x → pos 0 <ℤ y → pos 0 <ℤ z → ⊥
no_weights u v w x y z none hu hv hw some hx hy hz =
    let first = not_negative u x hu (omega (arith, ints)) in let second = not_negative v y hv (omega (arith, ints)) in let third = not_negative w z hw (omega (arith, ints)) in
    by_lt_z (pos 0) u
    (λ more. sum (u *ℤ x) (v *ℤ y) (w *ℤ z) none (positive-positive u x more hx) second third)
    (λ no_u. by_lt_z (pos 0) v
    (λ more. sum (v *ℤ y) (u *ℤ x) (w *ℤ z) (swapped (u *ℤ x) (v *ℤ y) (w *ℤ z) none) (positive-positive v y more hy) first third)
    (λ no_v. sum (w *ℤ z) (u *ℤ x) (v *ℤ y) (rotated (u *ℤ x) (v *ℤ y) (w *ℤ z) none) (positive-positive w z (left_over u v w no_u no_v some) hz) first second))
  where
    sum : (k l m : ℤ) → k +ℤ l +ℤ m ≡ pos 0 → pos 0 <ℤ k → pos 0 ≤ℤ l → pos 0 ≤ℤ m → ⊥
    sum k l m e hk hl hm = omega (arith, ints)

    swapped : (k l m : ℤ) → k +ℤ l +ℤ m ≡ pos 0 → l +ℤ k +ℤ m ≡ pos 0
    swapped k l m e = omega (arith, ints)

    rotated : (k l m : ℤ) → k +ℤ l +ℤ m ≡ pos 0 → m +ℤ k +ℤ l ≡ pos 0
    rotated k l m e = omega (arith, ints)

    left_over : (k l m : ℤ) → k ≤ℤ pos 0 → l ≤ℤ pos 0 → pos 0 <ℤ (k +ℤ l +ℤ m) → pos 0 <ℤ m
    left_over k l m hk hl h = omega (arith, ints)

-- c weighs the corners by the sides that lie opposite
weighted_offsets : (q a b c : Position)
    → (orientation a b c *ℤ (q.x -ℤ c.x) +ℤ orientation b q c *ℤ (a.x -ℤ c.x) +ℤ orientation q a c *ℤ (b.x -ℤ c.x) ≡ pos 0)
    × (orientation a b c *ℤ (q.y -ℤ c.y) +ℤ orientation b q c *ℤ (a.y -ℤ c.y) +ℤ orientation q a c *ℤ (b.y -ℤ c.y) ≡ pos 0)
weighted_offsets q a b c =
    let QX = var 0 in let QY = var 1 in let AX = var 2 in let AY = var 3 in let BX = var 4 in let BY = var 5 in
    let at : List ℤ = (q.x -ℤ c.x) ∷ (q.y -ℤ c.y) ∷ (a.x -ℤ c.x) ∷ (a.y -ℤ c.y) ∷ (b.x -ℤ c.x) ∷ (b.y -ℤ c.y) ∷ [] in (
      (λ i. turned_to a b c i *ℤ (q.x -ℤ c.x) +ℤ turned_to b q c i *ℤ (a.x -ℤ c.x) +ℤ turned_to q a c i *ℤ (b.x -ℤ c.x))
          ∙ by_parts at ((AX ⊠ BY ⊟ AY ⊠ BX) ⊠ QX ⊞ (BX ⊠ QY ⊟ BY ⊠ QX) ⊠ AX ⊞ (QX ⊠ AY ⊟ QY ⊠ AX) ⊠ BX) (num (pos 0)) (omega arith),
      (λ i. turned_to a b c i *ℤ (q.y -ℤ c.y) +ℤ turned_to b q c i *ℤ (a.y -ℤ c.y) +ℤ turned_to q a c i *ℤ (b.y -ℤ c.y))
          ∙ by_parts at ((AX ⊠ BY ⊟ AY ⊠ BX) ⊠ QY ⊞ (BX ⊠ QY ⊟ BY ⊠ QX) ⊠ AY ⊞ (QX ⊠ AY ⊟ QY ⊠ AX) ⊠ BY) (num (pos 0)) (omega arith),
    )

-- what lies beyond all corners isn't on the inner side of all three sides
not_within : (q a b c : Position) → IsBeyond q a b c → pos 0 <ℤ orientation q a b → pos 0 ≤ℤ orientation q a c → pos 0 ≤ℤ orientation a b c → pos 0 ≤ℤ orientation b q c → ⊥
not_within q a b c beyond some first second third = by beyond
  where
    more : (x y z w : ℤ) → x +ℤ y +ℤ z ≡ w → pos 0 <ℤ w → pos 0 <ℤ (y +ℤ z +ℤ x)
    more x y z w e h = omega (arith, ints)

    area : pos 0 <ℤ (orientation a b c +ℤ orientation b q c +ℤ orientation q a c)
    area = more (orientation q a c) (orientation a b c) (orientation b q c) (orientation q a b) (three_areas q a b c) some

    less : (x y : ℤ) → x <ℤ y → pos 0 <ℤ (y -ℤ x)
    less x y h = omega (arith, ints)

    back : (x y : ℤ) → x <ℤ y → pos 0 <ℤ neg_ℤ (x -ℤ y)
    back x y h = omega (arith, ints)

    -- the corners don't all lie on one side of c
    one_side : (x y z : ℤ) → orientation a b c *ℤ x +ℤ orientation b q c *ℤ y +ℤ orientation q a c *ℤ z ≡ pos 0 → pos 0 <ℤ x → pos 0 <ℤ y → pos 0 <ℤ z → ⊥
    one_side x y z sum = no_weights (orientation a b c) (orientation b q c) (orientation q a c) x y z sum second third first area

    other_side : (x y z : ℤ) → orientation a b c *ℤ x +ℤ orientation b q c *ℤ y +ℤ orientation q a c *ℤ z ≡ pos 0 → pos 0 <ℤ neg_ℤ x → pos 0 <ℤ neg_ℤ y → pos 0 <ℤ neg_ℤ z → ⊥
    other_side x y z sum = one_side (neg_ℤ x) (neg_ℤ y) (neg_ℤ z) (negated (orientation a b c) x (orientation b q c) y (orientation q a c) z sum)

    by : IsBeyond q a b c → ⊥
    by (west hq ha hb) = one_side (q.x -ℤ c.x) (a.x -ℤ c.x) (b.x -ℤ c.x) (weighted_offsets q a b c).0 (less c.x q.x hq) (less c.x a.x ha) (less c.x b.x hb)
    by (south hq ha hb) = one_side (q.y -ℤ c.y) (a.y -ℤ c.y) (b.y -ℤ c.y) (weighted_offsets q a b c).1 (less c.y q.y hq) (less c.y a.y ha) (less c.y b.y hb)
    by (east hq ha hb) = other_side (q.x -ℤ c.x) (a.x -ℤ c.x) (b.x -ℤ c.x) (weighted_offsets q a b c).0 (back q.x c.x hq) (back a.x c.x ha) (back b.x c.x hb)
    by (north hq ha hb) = other_side (q.y -ℤ c.y) (a.y -ℤ c.y) (b.y -ℤ c.y) (weighted_offsets q a b c).1 (back q.y c.y hq) (back a.y c.y ha) (back b.y c.y hb)

-- what lies outside of the box of a triangle with area lies outside of it
pub outside-of_box : (q a b c : Position) → IsBeyond q a b c → ¬ (orientation q a b ≡ pos 0) → is_outside q a b c ≡ true
outside-of_box q a b c beyond area =
    by_lt_z (pos 0) (orientation q a b)
    (λ some. left some (is_right q a c) (is_right a b c) (is_right b q c) refl refl refl)
    (λ none. by_lt_z (orientation q a b) (pos 0)
    (λ less. right less (is_left q a c) (is_left a b c) (is_left b q c) refl refl refl)
    (λ more. absurd (area (nothing (orientation q a b) none more))))
  where
    nothing : (z : ℤ) → z ≤ℤ pos 0 → pos 0 ≤ℤ z → z ≡ pos 0
    nothing z h k = omega (arith, ints)

    above : (z : ℤ) → pos 0 <ℤ z → int_lt (pos 0) z ≡ true
    above z h = grind (arith, ints)

    not_above : (z : ℤ) → z <ℤ pos 0 → int_lt (pos 0) z ≡ false
    not_above z h = grind (arith, ints)

    below : (z : ℤ) → z <ℤ pos 0 → int_lt z (pos 0) ≡ true
    below z h = grind (arith, ints)

    not_right : (z : ℤ) → int_lt z (pos 0) ≡ false → pos 0 ≤ℤ z
    not_right z h = grind (arith, ints)

    not_left : (u v w : Position) → int_lt (pos 0) (orientation u v w) ≡ false → pos 0 ≤ℤ orientation v u w
    not_left u v w h = let k = backwards u v w in turned (orientation v u w) (orientation u v w) k h
      where
        turned : (x y : ℤ) → x ≡ neg_ℤ y → int_lt (pos 0) y ≡ false → pos 0 ≤ℤ x
        turned x y e h = grind (arith, ints)

    back : IsBeyond q a b c → IsBeyond b a q c
    back (east hq ha hb) = east hb ha hq
    back (west hq ha hb) = west hb ha hq
    back (north hq ha hb) = north hb ha hq
    back (south hq ha hb) = south hb ha hq

    left : pos 0 <ℤ orientation q a b → (x y z : Bool) → is_right q a c ≡ x → is_right a b c ≡ y → is_right b q c ≡ z → is_outside q a b c ≡ true
    left some true y z first second third = simp (above (orientation q a b) some, first)
    left some false true z first second third = simp (above (orientation q a b) some, first, second)
    left some false false true first second third = simp (above (orientation q a b) some, first, second, third)
    left some false false false first second third =
        absurd (not_within q a b c beyond some (not_right (orientation q a c) first) (not_right (orientation a b c) second) (not_right (orientation b q c) third))

    right : orientation q a b <ℤ pos 0 → (x y z : Bool) → is_left q a c ≡ x → is_left a b c ≡ y → is_left b q c ≡ z → is_outside q a b c ≡ true
    right less true y z first second third = simp (not_above (orientation q a b) less, below (orientation q a b) less, first)
    right less false true z first second third = simp (not_above (orientation q a b) less, below (orientation q a b) less, first, second)
    right less false false true first second third = simp (not_above (orientation q a b) less, below (orientation q a b) less, first, second, third)
    right less false false false first second third =
        absurd (not_within b a q c (back beyond) (around q a b less) (not_left a b c second) (not_left q a c first) (not_left b q c third))
