use Rattle.std.proofs.Common.{◌-ℤ◌, ◌∙◌, lit≤}
use Rattle.geo_exact.specs.Measure.{doubled_area, rectangle_limit}
use Rattle.geo_exact.proofs.Wide.{position_read, combined}
use Rattle.geo_exact.proofs.measure.DoubledAreaSideMeasure.of.Goals as goal

pub overflow_sub-result : goal.overflow_sub-result
overflow_sub-result c =
    (combined rectangle_limit c.rectangle_area.result c.rectangle_area-2.result (lit≤ tt) c.rectangle_area.ensures.small c.rectangle_area-2.ensures.small).difference_fits

pub returns : goal.returns
returns c =
    let both = combined rectangle_limit c.rectangle_area.result c.rectangle_area-2.result (lit≤ tt) c.rectangle_area.ensures.small c.rectangle_area-2.ensures.small in
    let a = position_read c.a.invariant c.a.view_is in let b = position_read c.b.invariant c.b.view_is in
    record {
      value = both.difference ∙ (λ i. c.rectangle_area.ensures.value i -ℤ c.rectangle_area-2.ensures.value i) ∙ (λ i. doubled_area (a i) (b i));
      small = both.small;
    }
