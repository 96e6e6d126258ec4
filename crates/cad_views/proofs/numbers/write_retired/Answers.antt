use Rattle.std.proofs.Common.{◌∙◌}
use Rattle.cad_views.proofs.numbers.write_retired.Goals as goal

pub returns : goal.returns
returns c = rw (c.as_bytes-number.ensures.value ∙ c.format.ensures.text, c.get.ensures.value) at c.write_record.ensures
