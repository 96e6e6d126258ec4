use Rattle.std.proofs.Common.{ℤ, pos, ◌+ℤ◌, ◌∙◌, ap, lit≤}
use Rattle.std.specs.Prelude.{int_lt}
use Rattle.geo_exact.specs.Orientation.{dot, product_limit}
use Rattle.geo_exact.proofs.Wide.{position_read, combined}
use Rattle.geo_exact.proofs.orientation.points_back.Goals as goal

pub overflow_add-result : goal.overflow_add-result
overflow_add-result c = (combined product_limit c.product.result c.product-2.result (lit≤ tt) c.product.ensures.small c.product-2.ensures.small).sum_fits

pub returns : goal.returns
returns c =
    let both = combined product_limit c.product.result c.product-2.result (lit≤ tt) c.product.ensures.small c.product-2.ensures.small in
    let a = position_read c.a.invariant c.a.view_is in
    let b = position_read c.b.invariant c.b.view_is in
    let v = position_read c.v.invariant c.v.view_is in
    ap (λ (z : ℤ). int_lt z (pos 0))
    (both.sum ∙ (λ i. c.product.ensures.value i +ℤ c.product-2.ensures.value i) ∙ (λ i. dot (v i) (a i) (b i)))
