-- Columns and rows of coordinates.
use Rattle.std.proofs.Common.{◌≡◌, ℕ, ◌+◌, ◌*◌, ◌/◌, ◌^◌, ◌<◌, ◌≤◌, ℤ, pos, negsuc, ◌+ℤ◌, ◌≤ℤ◌, unsigned_abs, arith, refl, sym, subst, min, max, true}
use Rattle.std.proofs.lemmas.Int.{ints, clamps, by_lt_z}
use Rattle.std.specs.Int.{int_min, int_max}
use Rattle.std.proofs.lemmas.Nat.{div_below}
use Rattle.std.proofs.Math.Pow.{pow_mono, shr_mono}
use Rattle.geo_exact.specs.Position.{Position, InRange, OnTheMap}
use Rattle.geo_exact.specs.SignTest.{overlaps, boxes_overlap}
use Rattle.geo_exact.proofs.CallerLemmas.{overlaps-shared}
use Rattle.geo_exact.proofs.SignTestLemmas.{and_left, and_right}
use Rattle.cell_grid.specs.declared.block.CellSize.{CellSize}
use Rattle.cell_grid.specs.Cells.{AreSideBits, cells_in_row, shift, place_along, block_of, IsCellOf}

-- a side is more than half a metre
side-long : (bits : ℕ) → AreSideBits bits → 512 ≤ 2 ^ bits
side-long bits h = pow_mono h.least

pub record FromZero (z : ℤ) : Type 0 where
  pub n : ℕ
  pub is : z +ℤ pos shift ≡ pos n
  pub within : n ≤ 27179869184

-- a coordinate from the beginning of the grid
pub from_zero : (z : ℤ) → InRange z → FromZero z
from_zero z within = of (z +ℤ pos shift) refl
  where
    of : (x : ℤ) → z +ℤ pos shift ≡ x → FromZero z
    of (pos n) e = let low = within.low in let high = within.high in record { n = n; is = e; within = omega (arith, ints) }
    of (negsuc n) e = let low = within.low in absurd (omega (arith, ints))

pub place-within : (bits : ℕ) → AreSideBits bits → (z : ℤ) → InRange z → place_along bits z < cells_in_row
place-within bits h z within =
    let f = from_zero z within in
    let long = side-long bits h in
    let some : 0 < 2 ^ bits = omega (arith, long) in
    let small : f.n < cells_in_row * 2 ^ bits = omega (arith, f.within, long) in
    subst (λ (x : ℤ). unsigned_abs x / 2 ^ bits < cells_in_row) (sym f.is)
    (div_below f.n (2 ^ bits) cells_in_row some small)

-- what lies farther east or north has no earlier column or row
pub place-keeps : (bits : ℕ) → (y z : ℤ) → InRange y → InRange z → y ≤ℤ z
    → place_along bits y ≤ place_along bits z
place-keeps bits y z hy hz le =
    let f = from_zero y hy in
    let g = from_zero z hz in
    let up : f.n ≤ g.n = omega (arith, ints, f.is, g.is) in
    rw (f.is, g.is) (shr_mono bits up)

-- ---- Boxes that overlap

-- one column of both
record HasColumn (bits : ℕ) (a b c d : ℤ) : Type 0 where
  at : ℕ
  low_first : min (place_along bits a) (place_along bits b) ≤ at
  high_first : at ≤ max (place_along bits a) (place_along bits b)
  low_second : min (place_along bits c) (place_along bits d) ≤ at
  high_second : at ≤ max (place_along bits c) (place_along bits d)

in_range-between : (a b m : ℤ) → InRange a → InRange b → int_min a b ≤ℤ m → m ≤ℤ int_max a b
    → InRange m
in_range-between a b m ha hb low high =
    let al = ha.low in let ah = ha.high in let bl = hb.low in let bh = hb.high in
    record { low = omega (arith, ints, clamps); high = omega (arith, ints, clamps) }

low_kept : (bits : ℕ) → (a b m : ℤ) → InRange a → InRange b → InRange m
    → int_min a b ≤ℤ m → min (place_along bits a) (place_along bits b) ≤ place_along bits m
low_kept bits a b m ha hb hm low =
    by_lt_z m a
    (λ lt. let e = place-keeps bits b m hb hm (omega (arith, ints, clamps)) in omega arith)
    (λ ge. let e = place-keeps bits a m ha hm ge in omega arith)

high_kept : (bits : ℕ) → (a b m : ℤ) → InRange a → InRange b → InRange m
    → m ≤ℤ int_max a b → place_along bits m ≤ max (place_along bits a) (place_along bits b)
high_kept bits a b m ha hb hm high =
    by_lt_z a m
    (λ lt. let e = place-keeps bits m b hm hb (omega (arith, ints, clamps)) in omega arith)
    (λ ge. let e = place-keeps bits m a hm ha ge in omega arith)

one_column : (bits : ℕ) → (a b c d : ℤ) → InRange a → InRange b → InRange c
    → InRange d → overlaps a b c d ≡ true → HasColumn bits a b c d
one_column bits a b c d ha hb hc hd meet =
    let m = (overlaps-shared a b c d meet).0 in
    let s = (overlaps-shared a b c d meet).1 in
    let hm = in_range-between a b m ha hb s.low_first s.high_first in
    record {
      at = place_along bits m;
      low_first = low_kept bits a b m ha hb hm s.low_first;
      high_first = high_kept bits a b m ha hb hm s.high_first;
      low_second = low_kept bits c d m hc hd hm s.low_second;
      high_second = high_kept bits c d m hc hd hm s.high_second;
    }

pub one_cell : (size : CellSize) (a b c d : Position) → OnTheMap a → OnTheMap b
    → OnTheMap c → OnTheMap d → boxes_overlap a b c d ≡ true
    → (cell : ℕ) × IsCellOf (block_of size a b) cell × IsCellOf (block_of size c d) cell
one_cell size a b c d on_a on_b on_c on_d meet =
    let x = one_column size.width_bits a.x b.x c.x d.x on_a.x_in_range on_b.x_in_range on_c.x_in_range
    on_d.x_in_range (and_left _ _ meet) in
    let y = one_column size.height_bits a.y b.y c.y d.y on_a.y_in_range on_b.y_in_range on_c.y_in_range
    on_d.y_in_range (and_right _ _ meet) in (
      y.at * cells_in_row + x.at,
      record {
        x = x.at;
        y = y.at;
        left = x.low_first;
        right = x.high_first;
        bottom = y.low_first;
        top = y.high_first;
        is = refl;
      },
      record {
        x = x.at;
        y = y.at;
        left = x.low_second;
        right = x.high_second;
        bottom = y.low_second;
        top = y.high_second;
        is = refl;
      },
    )
