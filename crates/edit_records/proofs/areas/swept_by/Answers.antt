use Rattle.std.proofs.Common.{◌-ℤ◌, ◌∙◌}
use Rattle.edit_records.proofs.AreaNumbers.{less-small, less-value}
use Rattle.edit_records.proofs.areas.swept_by.Goals as goal

pub returns : goal.returns
returns c = record {
  value =
      less-value c.of.result c.of-2.result c.of.ensures.small c.of-2.ensures.small
      ∙ (λ i. c.of.ensures.value i -ℤ c.of-2.ensures.value i);
  small = less-small c.of.result c.of-2.result c.of.ensures.small c.of-2.ensures.small;
}
