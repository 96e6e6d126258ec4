use Rattle.std.proofs.Common.{◌-ℤ◌, ◌∙◌, lit≤}
use Rattle.geo_exact.specs.Orientation.{orientation, product_limit}
use Rattle.geo_exact.proofs.Wide.{position_read, combined}
use Rattle.geo_exact.proofs.orientation.orient.Goals as goal

pub overflow_sub-result : goal.overflow_sub-result
overflow_sub-result c = (combined product_limit c.product.result c.product-2.result (lit≤ tt) c.product.ensures.small c.product-2.ensures.small).difference_fits

pub returns : goal.returns
returns c =
    let both = combined product_limit c.product.result c.product-2.result (lit≤ tt) c.product.ensures.small c.product-2.ensures.small in
    let a = position_read c.a.invariant c.a.view_is in
    let b = position_read c.b.invariant c.b.view_is in
    let d = position_read c.c.invariant c.c.view_is in
    record {
      value = both.difference ∙ (λ i. c.product.ensures.value i -ℤ c.product-2.ensures.value i) ∙ (λ i. orientation (a i) (b i) (d i));
      small = both.small;
    }
