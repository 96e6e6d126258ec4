-- Numbers of areas as the code reads them: all are far within its integers.
use Rattle.std.proofs.Common.{◌≡◌, ◌≤◌, pos, neg_ℤ, ◌*◌, ◌-ℤ◌, ◌∙◌, ℤ, refl, to_z, of_z, unsigned_abs, FitsSigned, to_z-of_z, arith}
use Rattle.std.specs.Int.{w128}
use Rattle.std.proofs.lemmas.Int.{ints}
use Rattle.geo_exact.specs.Measure.{measure_limit}

module _ (x y : ℤ) (first : unsigned_abs x ≤ measure_limit)
    (second : unsigned_abs y ≤ measure_limit) where
  -- what is read of one area less another
  abbrev less : ℤ
  less = to_z w128 (of_z w128 x) -ℤ to_z w128 (of_z w128 y)

  less-is : less ≡ x -ℤ y
  less-is =
      let one : FitsSigned w128 x = omega (arith, ints) in
      let other : FitsSigned w128 y = omega (arith, ints) in
      simp to_z-of_z refl

  less-fits : FitsSigned w128 less
  less-fits = rw less-is (omega (arith, ints))

  pub less-value : to_z w128 (of_z w128 less) ≡ x -ℤ y
  less-value = to_z-of_z less-fits ∙ less-is

  pub less-small : unsigned_abs (to_z w128 (of_z w128 less)) ≤ 1000000000000000000000
  less-small = rw less-value (omega (arith, ints))

-- a bend's area is as small as that
pub bend-small : (z : ℤ) → unsigned_abs z ≤ 3 * measure_limit
    → unsigned_abs z ≤ 1000000000000000000000
bend-small z small = omega (arith, small)

-- what is read of the opposite of a number
pub opposite-value : (z : ℤ) → unsigned_abs z ≤ 1000000000000000000000
    → to_z w128 (of_z w128 (pos 0 -ℤ to_z w128 (of_z w128 z))) ≡ neg_ℤ z
opposite-value z small =
    let fits : FitsSigned w128 z = omega (arith, ints) in
    let turned : FitsSigned w128 (pos 0 -ℤ z) = omega (arith, ints) in
    let is : pos 0 -ℤ z ≡ neg_ℤ z = omega (arith, ints) in
    rw (to_z-of_z fits) (to_z-of_z turned ∙ is)

-- which is as small
pub opposite-small : (z : ℤ) → unsigned_abs z ≤ 1000000000000000000000
    → unsigned_abs (to_z w128 (of_z w128 (pos 0 -ℤ to_z w128 (of_z w128 z))))
    ≤ 1000000000000000000000
opposite-small z small = rw (opposite-value z small) (omega (arith, ints, small))

-- what is read of a number
pub read-value : (z : ℤ) → unsigned_abs z ≤ 1000000000000000000000
    → to_z w128 (of_z w128 z) ≡ z
read-value z small = let fits : FitsSigned w128 z = omega (arith, ints) in to_z-of_z fits
