-- What crates above cite of positions, orientations, segments, sectors and measures, in one import.
use Rattle.std.proofs.Common.{◌≡◌, ◌*◌, ◌≤◌, refl, ap, List, [], ◌∷◌, ◌++◌, length, ℤ, pos, ◌+ℤ◌, ◌-ℤ◌, ◌*ℤ◌, neg_ℤ, ◌≤ℤ◌, arith, Bool, true, false, ◌⊎◌, inl, inr, unsigned_abs, lit<}
use Rattle.std.specs.Prelude.{◌↔◌, ◌&&◌, ◌||◌}
use Rattle.std.specs.List.{AllByRecursion}
use Rattle.std.proofs.lemmas.Int.{ints, clamps, by_lt_z}
use Rattle.std.specs.Int.{int_min, int_max}
use Rattle.std.proofs.lemmas.Bool.{cases_Bool}
use Rattle.geo_exact.specs.Position.{Position, InRange, OnTheMap, in_range, coordinate_limit}
use Rattle.geo_exact.specs.declared.position.TheConstants.{COORDINATE_LIMIT}
use Rattle.geo_exact.specs.Orientation.{orientation}
use Rattle.geo_exact.specs.Segment.{HaveCommonLocation, IsOnSegment, location}
use Rattle.geo_exact.specs.SignTest.{passes_signs, boxes_overlap, overlaps, straddles}
use Rattle.geo_exact.specs.Inside.{is_counted, is_counted_upwards}
use Rattle.geo_exact.specs.Measure.{Measure, IsBounded, doubled_area, sum_over, measure_limit}
use Rattle.geo_exact.proofs.Meeting.{swap_roles, swap_first, swap_second, backwards, one_point}
use Rattle.geo_exact.proofs.SignTestLemmas.{and_right, overlap_from}
use Rattle.geo_exact.proofs.Toolbox.{by_parts, var, ◌⊞◌, ◌⊟◌, ◌⊠◌}
pub use Rattle.geo_exact.specs.MeasureLaws.{doubled_area-odd, doubled_area-bounded, winding-odd, winding-bounded}
pub use Rattle.geo_exact.proofs.Directions.{one_is_first, in_one_sector}
pub use Rattle.geo_exact.proofs.Borders.{in_sector-first_border, in_sector-last_border, IsApart, in_sector-apart, in_sector-three}
pub use Rattle.geo_exact.proofs.PastTriangle.{IsBeyond, passes_triangle, outside-not_on, outside-of_box}
pub use Rattle.geo_exact.proofs.RoundPoint.{in_sector-turned, in_sector-goes_on, in_sector-goes_on-rest, IsClear, in_sector-whole, stays-clear_last, stays-clear_first, stays-clear_elsewhere}
pub use Rattle.geo_exact.proofs.SignTestLemmas.{passes_signs-is}
pub use Rattle.geo_exact.proofs.TurnOrder.{IsBetween, met-later, met-total, met-apart, not-met-itself, same-exchanged, on-same_direction, first-between, second-between, last-between}

-- ---- Positions

-- the constant of the code is the limit of the definitions
pub COORDINATE_LIMIT-is : COORDINATE_LIMIT ≡ coordinate_limit
COORDINATE_LIMIT-is = refl

-- the test of a coordinate answers true exactly where it is in range
pub in_range-is : (z : ℤ) → (in_range z ≡ true) ↔ InRange z
in_range-is z = ((λ h. record { low = grind (arith, ints); high = grind (arith, ints) }), (λ h. let low = h.low in let high = h.high in grind (arith, ints)))

-- ---- Orientations

module _ (a b c : Position) where
  pub orientation-turned : orientation b c a ≡ orientation a b c
  orientation-turned =
      let AX = var 0 in let AY = var 1 in let BX = var 2 in let BY = var 3 in let CX = var 4 in let CY = var 5 in
      by_parts (a.x ∷ a.y ∷ b.x ∷ b.y ∷ c.x ∷ c.y ∷ []) ((CX ⊟ BX) ⊠ (AY ⊟ BY) ⊟ (CY ⊟ BY) ⊠ (AX ⊟ BX)) ((BX ⊟ AX) ⊠ (CY ⊟ AY) ⊟ (BY ⊟ AY) ⊠ (CX ⊟ AX)) (omega arith)

  pub orientation-exchanged : orientation b a c ≡ neg_ℤ (orientation a b c)
  orientation-exchanged = backwards a b c

  -- the three triangles that q makes with the sides of abc add up to it
  pub orientation-three : (q : Position) → orientation a b q +ℤ orientation b c q +ℤ orientation c a q ≡ orientation a b c
  orientation-three q =
      let AX = var 0 in let AY = var 1 in let BX = var 2 in let BY = var 3 in let CX = var 4 in let CY = var 5 in let QX = var 6 in let QY = var 7 in
      by_parts (a.x ∷ a.y ∷ b.x ∷ b.y ∷ c.x ∷ c.y ∷ q.x ∷ q.y ∷ [])
      ((BX ⊟ AX) ⊠ (QY ⊟ AY) ⊟ (BY ⊟ AY) ⊠ (QX ⊟ AX) ⊞ ((CX ⊟ BX) ⊠ (QY ⊟ BY) ⊟ (CY ⊟ BY) ⊠ (QX ⊟ BX)) ⊞ ((AX ⊟ CX) ⊠ (QY ⊟ CY) ⊟ (AY ⊟ CY) ⊠ (QX ⊟ CX)))
      ((BX ⊟ AX) ⊠ (CY ⊟ AY) ⊟ (BY ⊟ AY) ⊠ (CX ⊟ AX)) (omega arith)

  -- the doubled area of a triangle is its orientation
  pub doubled_area-triangle : doubled_area a b +ℤ doubled_area b c +ℤ doubled_area c a ≡ orientation a b c
  doubled_area-triangle =
      let AX = var 0 in let AY = var 1 in let BX = var 2 in let BY = var 3 in let CX = var 4 in let CY = var 5 in
      by_parts (a.x ∷ a.y ∷ b.x ∷ b.y ∷ c.x ∷ c.y ∷ []) ((AX ⊠ BY ⊟ BX ⊠ AY) ⊞ (BX ⊠ CY ⊟ CX ⊠ BY) ⊞ (CX ⊠ AY ⊟ AX ⊠ CY)) ((BX ⊟ AX) ⊠ (CY ⊟ AY) ⊟ (BY ⊟ AY) ⊠ (CX ⊟ AX)) (omega arith)

-- ---- Segments

module _ (a b c d : Position) where
  pub HaveCommonLocation-exchanged : HaveCommonLocation c d a b → HaveCommonLocation a b c d
  HaveCommonLocation-exchanged = swap_roles a b c d

  pub HaveCommonLocation-first_turned : HaveCommonLocation b a c d → HaveCommonLocation a b c d
  HaveCommonLocation-first_turned = swap_first a b c d

  pub HaveCommonLocation-second_turned : HaveCommonLocation a b d c → HaveCommonLocation a b c d
  HaveCommonLocation-second_turned = swap_second a b c d

  -- two segments have a common location, or they don't
  pub HaveCommonLocation-or_not : HaveCommonLocation a b c d ⊎ (¬ HaveCommonLocation a b c d)
  HaveCommonLocation-or_not = elim (cases_Bool (passes_signs a b c d)) [
    | inl passed ↦ inl ((passes_signs-is a b c d).0 passed)
    | inr failed ↦ inr (λ h. let passed = (passes_signs-is a b c d).1 h in cc)
  ]

  -- segments with a common location have boxes that overlap
  pub boxes_overlap-HaveCommonLocation : HaveCommonLocation a b c d → boxes_overlap a b c d ≡ true
  boxes_overlap-HaveCommonLocation h = and_right (straddles c d a b && straddles a b c d) (boxes_overlap a b c d) ((passes_signs-is a b c d).1 h)

-- m lies between a and b, and between c and d
pub record IsShared (a b c d m : ℤ) : Type 0 where
  pub low_first : int_min a b ≤ℤ m
  pub high_first : m ≤ℤ int_max a b
  pub low_second : int_min c d ≤ℤ m
  pub high_second : m ≤ℤ int_max c d

-- two stretches that overlap have such a number (`boxes_overlap` is this in x and in y)
pub overlaps-shared : (a b c d : ℤ) → overlaps a b c d ≡ true → (m : ℤ) × IsShared a b c d m
overlaps-shared a b c d h =
    let o = overlap_from a b c d h in
    let above : int_min c d ≤ℤ int_max a b =
    by_lt_z (int_max a b) (int_min c d)
    (λ lt. absurd (o.not_below (omega (arith, ints, clamps)) (omega (arith, ints, clamps)) (omega (arith, ints, clamps)) (omega (arith, ints, clamps)))) (λ ge. ge) in
    let below : int_min a b ≤ℤ int_max c d =
    by_lt_z (int_max c d) (int_min a b)
    (λ lt. absurd (o.not_above (omega (arith, ints, clamps)) (omega (arith, ints, clamps)) (omega (arith, ints, clamps)) (omega (arith, ints, clamps)))) (λ ge. ge) in (
      int_max (int_min a b) (int_min c d),
      record {
        low_first = omega (arith, ints, clamps);
        high_first = omega (arith, ints, clamps);
        low_second = omega (arith, ints, clamps);
        high_second = omega (arith, ints, clamps);
      },
    )

module _ (a b : Position) where
  -- the ends of a segment lie on it
  pub IsOnSegment-first : IsOnSegment a b a
  IsOnSegment-first = record { n = 1; s = 0; t = 0; some = lit< tt; on_first = omega arith; on_second = omega arith; same = λ i. record { x = one_point a.x b.x a.x a.x refl i; y = one_point a.y b.y a.y a.y refl i } }

  pub IsOnSegment-last : IsOnSegment a b b
  IsOnSegment-last = swap_first a b b b (record { n = 1; s = 0; t = 0; some = lit< tt; on_first = omega arith; on_second = omega arith; same = λ i. record { x = one_point b.x a.x b.x b.x refl i; y = one_point b.y a.y b.y b.y refl i } })

-- the common location is neither end of ab
pub record IsNoEnd (a b c d : Position) (common : HaveCommonLocation a b c d) : Type 0 where
  pub not_first : ¬ (location common.n a common.s b ≡ location common.n a 0 a)
  pub not_last : ¬ (location common.n a common.s b ≡ location common.n b 0 b)

not_first_end : (a b : Position) → ¬ (a ≡ b) → ¬ (location 2 a 1 b ≡ location 2 a 0 a)
not_first_end a b apart e = apart (λ i. record { x = same a.x b.x (ap (λ (p : Position). p.x) e) i; y = same a.y b.y (ap (λ (p : Position). p.y) e) i })
  where
    same : (x y : ℤ) → pos 2 *ℤ x +ℤ pos 1 *ℤ (y -ℤ x) ≡ pos 2 *ℤ x +ℤ pos 0 *ℤ (x -ℤ x) → x ≡ y
    same x y h = omega (arith, ints)

not_last_end : (a b : Position) → ¬ (a ≡ b) → ¬ (location 2 a 1 b ≡ location 2 b 0 b)
not_last_end a b apart e = apart (λ i. record { x = same a.x b.x (ap (λ (p : Position). p.x) e) i; y = same a.y b.y (ap (λ (p : Position). p.y) e) i })
  where
    same : (x y : ℤ) → pos 2 *ℤ x +ℤ pos 1 *ℤ (y -ℤ x) ≡ pos 2 *ℤ y +ℤ pos 0 *ℤ (y -ℤ y) → x ≡ y
    same x y h = omega (arith, ints)

-- two segments with both ends in common, which differ, have a common location half-way that is neither end
pub half_way : (a b : Position) → ¬ (a ≡ b) → (common : HaveCommonLocation a b a b) × IsNoEnd a b a b common
half_way a b apart = (
  record { n = 2; s = 1; t = 1; some = lit< tt; on_first = omega arith; on_second = omega arith; same = refl },
  record { not_first = not_first_end a b apart; not_last = not_last_end a b apart },
)

pub half_way-opposite : (a b : Position) → ¬ (a ≡ b) → (common : HaveCommonLocation a b b a) × IsNoEnd a b b a common
half_way-opposite a b apart = (
  record { n = 2; s = 1; t = 1; some = lit< tt; on_first = omega arith; on_second = omega arith; same = λ i. record { x = middle a.x b.x i; y = middle a.y b.y i } },
  record { not_first = not_first_end a b apart; not_last = not_last_end a b apart },
)
  where
    middle : (x y : ℤ) → pos 2 *ℤ x +ℤ pos 1 *ℤ (y -ℤ x) ≡ pos 2 *ℤ y +ℤ pos 1 *ℤ (x -ℤ y)
    middle x y = omega (arith, ints)

-- ---- Counted sides and measures

pub is_counted-exchanged : (a b q : Position) → is_counted b a q ≡ is_counted a b q
is_counted-exchanged a b q = or_exchanged (is_counted_upwards b a q) (is_counted_upwards a b q)
  where
    or_exchanged : (s t : Bool) → (s || t) ≡ (t || s)
    or_exchanged true true = refl
    or_exchanged true false = refl
    or_exchanged false true = refl
    or_exchanged false false = refl

pub sum_over-append : (f : Measure) (xs ys : List (Position × Position)) → sum_over f (xs ++ ys) ≡ sum_over f xs +ℤ sum_over f ys
sum_over-append f [] ys = omega (arith, ints)
sum_over-append f (side ∷ xs) ys = let h = sum_over-append f xs ys in omega (arith, ints)

-- the measures of so many sides, added up, for positions on the map
pub sum_over-bounded : (f : Measure) → IsBounded f → (sides : List (Position × Position)) → AllByRecursion (λ side. OnTheMap side.0 × OnTheMap side.1) sides
    → unsigned_abs (sum_over f sides) ≤ length sides * measure_limit
sum_over-bounded f small [] h = omega arith
sum_over-bounded f small (side ∷ sides) h =
    let first = small side.0 side.1 h.0.0 h.0.1 in
    let rest = sum_over-bounded f small sides h.1 in
    omega (arith, ints)
