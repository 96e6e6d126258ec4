use Rattle.std.proofs.Common.{◌∙◌, ap, decimal}
use Rattle.cad_views.proofs.differences.write_difference.Goals as goal

pub returns : goal.returns
returns c =
    rw (
      c.as_bytes-kind.ensures.value ∙ c.kind_name.ensures,
      c.as_bytes-number.ensures.value ∙ c.format.ensures.text ∙ ap decimal c.name_number.ensures,
      c.as_slice-was.ensures.value ∙ c.in_ok-was.ensures,
      c.as_slice-is.ensures.value ∙ c.in_ok-is.ensures,
    ) at c.write_record.ensures
