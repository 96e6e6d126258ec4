use Rattle.std.proofs.Common.{◌≡◌, ◌≤◌, ◌+ℤ◌, ◌-ℤ◌, ◌∙◌, ℤ, refl, to_z, of_z, unsigned_abs, FitsSigned, to_z-of_z, arith}
use Rattle.std.specs.Int.{w128}
use Rattle.std.proofs.lemmas.Int.{ints}
use Rattle.geo_exact.specs.Measure.{measure_limit}
use Rattle.cad_near.proofs.joins.area_of_bend.Goals as goal

module _ (x y z : ℤ) (first : unsigned_abs x ≤ measure_limit) (second : unsigned_abs y ≤ measure_limit) (third : unsigned_abs z ≤ measure_limit) where
  -- what is read of two areas less a third
  abbrev read : ℤ
  read = to_z w128 (of_z w128 (to_z w128 (of_z w128 x) +ℤ to_z w128 (of_z w128 y))) -ℤ to_z w128 (of_z w128 z)

  read-is : read ≡ x +ℤ y -ℤ z
  read-is =
      let one : FitsSigned w128 x = omega (arith, ints) in
      let other : FitsSigned w128 y = omega (arith, ints) in
      let between : FitsSigned w128 z = omega (arith, ints) in
      let both : FitsSigned w128 (x +ℤ y) = omega (arith, ints) in
      simp to_z-of_z refl

  fits : FitsSigned w128 read
  fits = rw read-is (omega (arith, ints))

  value : to_z w128 (of_z w128 read) ≡ x +ℤ y -ℤ z
  value = to_z-of_z fits ∙ read-is

  small : unsigned_abs (to_z w128 (of_z w128 read)) ≤ 600000000000000000000
  small = rw value (omega (arith, ints))

pub overflow_sub-result : goal.overflow_sub-result
overflow_sub-result c = fits c.of.result c.of-2.result c.of-3.result c.of.ensures.small c.of-2.ensures.small c.of-3.ensures.small

pub returns : goal.returns
returns c = record {
  value = value c.of.result c.of-2.result c.of-3.result c.of.ensures.small c.of-2.ensures.small c.of-3.ensures.small
      ∙ (λ i. c.of.ensures.value i +ℤ c.of-2.ensures.value i -ℤ c.of-3.ensures.value i);
  small = small c.of.result c.of-2.result c.of-3.result c.of.ensures.small c.of-2.ensures.small c.of-3.ensures.small;
}
