-- Why each measure meets its laws. These proofs stand here, since an `impl` cites no file of `proofs`.
use Rattle.std.proofs.Common.{◌≡◌, ℕ, zero, suc, ◌+◌, ◌-◌, ◌≤◌, refl, sym, ap, subst, ◌∙◌, ℤ, pos, negsuc, ◌+ℤ◌, ◌-ℤ◌, ◌*ℤ◌, neg_ℤ, Bool, true, false, cond, lit≤, le_trans, le_refl, le_of_eq, le-add_right, le-add_left, sub-le, suc-le-suc, suc-add, add-suc, add_comm, add-le-add, mul-le-mul, unsigned_abs, true≢false}
use Rattle.std.proofs.Math.IntN.{+ℤ_comm, neg_ℤ-neg_ℤ, neg_ℤ-+ℤ}
use Rattle.std.proofs.Math.Nat.{suc-sub-suc}
use Rattle.std.proofs.Math.Dec.{ltb, leb→le}
use Rattle.std.proofs.lemmas.Int.{unsigned_abs-mul}
use Rattle.std.specs.Prelude.{not, ◌&&◌, int_le, if◌then◌else◌}
use Rattle.geo_exact.specs.Position.{Position, InRange}
use Rattle.geo_exact.specs.Orientation.{is_left}
use Rattle.geo_exact.specs.Inside.{winding, is_counted_upwards}
use Rattle.geo_exact.specs.Measure.{IsOdd, IsBounded, doubled_area, measure_limit}

-- ---- Doubled area

pub doubled_area-odd : IsOdd doubled_area
doubled_area-odd a b = other_way (a.x *ℤ b.y) (b.x *ℤ a.y)
  where
    other_way : (x y : ℤ) → y -ℤ x ≡ neg_ℤ (x -ℤ y)
    other_way x y = +ℤ_comm y (neg_ℤ x) ∙ ap (λ (z : ℤ). neg_ℤ x +ℤ z) (sym (neg_ℤ-neg_ℤ y)) ∙ sym (neg_ℤ-+ℤ x (neg_ℤ y))

-- a difference of naturals is at most their sum
sub_size : (a b : ℕ) (below : Bool) → unsigned_abs (cond below (negsuc (suc b - suc a)) (pos (a - suc b))) ≤ a + suc b
sub_size a b true = le_trans (suc-le-suc (subst (λ (n : ℕ). n ≤ b) (sym (suc-sub-suc b a)) (sub-le b a))) (le-add_left (suc b) a)
sub_size a b false = le_trans (sub-le a (suc b)) (le-add_right a (suc b))

sum_size : (x y : ℤ) → unsigned_abs (x +ℤ y) ≤ unsigned_abs x + unsigned_abs y
sum_size (pos a) (pos b) = le_refl (a + b)
sum_size (pos a) (negsuc b) = sub_size a b (ltb a (suc b))
sum_size (negsuc a) (pos b) = subst (λ (n : ℕ). unsigned_abs (negsuc a +ℤ pos b) ≤ n) (add_comm b (suc a)) (sub_size b a (ltb b (suc a)))
sum_size (negsuc a) (negsuc b) = le_of_eq (ap suc (sym (suc-add a b)) ∙ sym (add-suc (suc a) b))

opposite_size : (x : ℤ) → unsigned_abs (neg_ℤ x) ≡ unsigned_abs x
opposite_size (pos zero) = refl
opposite_size (pos (suc n)) = refl
opposite_size (negsuc n) = refl

coordinate_size : (z : ℤ) → InRange z → unsigned_abs z ≤ 10000000000
coordinate_size (pos n) h = leb→le n 10000000000 h.high.le
coordinate_size (negsuc n) h = suc-le-suc (leb→le n 9999999999 h.low.le)

product_size : (a b : ℤ) → InRange a → InRange b → unsigned_abs (a *ℤ b) ≤ 100000000000000000000
product_size a b h k =
    subst (λ (n : ℕ). n ≤ 100000000000000000000) (sym (unsigned_abs-mul a b)) (le_trans (mul-le-mul (coordinate_size a h) (coordinate_size b k)) (lit≤ tt))

pub doubled_area-bounded : IsBounded doubled_area
doubled_area-bounded a b h k = difference_size (a.x *ℤ b.y) (b.x *ℤ a.y) (product_size a.x b.y h.x_in_range k.y_in_range) (product_size b.x a.y k.x_in_range h.y_in_range)
  where
    difference_size : (x y : ℤ) → unsigned_abs x ≤ 100000000000000000000 → unsigned_abs y ≤ 100000000000000000000 → unsigned_abs (x -ℤ y) ≤ measure_limit
    difference_size x y p q =
        le_trans (sum_size x (neg_ℤ y))
        (le_trans (add-le-add p (subst (λ (n : ℕ). n ≤ 100000000000000000000) (sym (opposite_size y)) q)) (lit≤ tt))

-- ---- Winding

-- the number of a side that is counted upwards, or downwards, or neither
abbrev of_ways : Bool → Bool → ℤ
of_ways up down = if up then pos 1 else (if down then negsuc 0 else pos 0)

exchange : (up down : Bool) → (up ≡ true → down ≡ true → ⊥) → of_ways down up ≡ neg_ℤ (of_ways up down)
exchange true true h = absurd (h refl refl)
exchange true false h = refl
exchange false true h = refl
exchange false false h = refl

-- a side isn't counted both upwards and downwards
one_way : (low high left right : Bool) → (low && not high && left) ≡ true → (high && not low && right) ≡ true → ⊥
one_way true true left right h k = true≢false (sym h)
one_way true false left right h k = true≢false (sym k)
one_way false high left right h k = true≢false (sym h)

pub winding-odd : (q : Position) → IsOdd (winding q)
winding-odd q a b = exchange (is_counted_upwards a b q) (is_counted_upwards b a q) (one_way (int_le a.y q.y) (int_le b.y q.y) (is_left a b q) (is_left b a q))

pub winding-bounded : (q : Position) → IsBounded (winding q)
winding-bounded q a b h k = small (is_counted_upwards a b q) (is_counted_upwards b a q)
  where
    small : (up down : Bool) → unsigned_abs (of_ways up down) ≤ measure_limit
    small true down = lit≤ tt
    small false true = lit≤ tt
    small false false = lit≤ tt
