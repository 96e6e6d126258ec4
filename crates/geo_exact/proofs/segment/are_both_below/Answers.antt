use Rattle.std.proofs.Common.{◌≡◌, ◌∙◌, ℤ, to_z, of_z, w64, to_z-of_z, FitsSigned, arith}
use Rattle.std.proofs.lemmas.Int.{ints, clamps}
use Rattle.std.specs.Prelude.{int_lt}
use Rattle.std.specs.Int.{int_max, int_min}
use Rattle.geo_exact.specs.SignTest.{are_below}
use Rattle.geo_exact.proofs.segment.are_both_below.Goals as goal

-- the greater of two is below the lesser of two others just where both are below both
below-is : (a b c d : ℤ) → int_lt (int_max a b) (int_min c d) ≡ are_below a b c d
below-is a b c d = grind (arith, ints, clamps)

pub returns : goal.returns
returns c =
    let high : c.max.result ≡ int_max c.args.a c.args.b = simp (to_z-of_z, c.ranges.a, c.ranges.b) at c.max.ensures.value in
    let low : c.min.result ≡ int_min c.args.c c.args.d = simp (to_z-of_z, c.ranges.c, c.ranges.d) at c.min.ensures.value in
    let high_fits : FitsSigned w64 c.max.result = let most = c.max.type_inv in omega (arith, ints, most) in
    let low_fits : FitsSigned w64 c.min.result = let most = c.min.type_inv in omega (arith, ints, most) in
    let one : to_z w64 (of_z w64 c.max.result) ≡ c.max.result = to_z-of_z high_fits in
    let two : to_z w64 (of_z w64 c.min.result) ≡ c.min.result = to_z-of_z low_fits in
    (λ i. int_lt ((one ∙ high) i) ((two ∙ low) i)) ∙ below-is c.args.a c.args.b c.args.c c.args.d
