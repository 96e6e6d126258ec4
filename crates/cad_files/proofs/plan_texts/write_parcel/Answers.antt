use Rattle.std.proofs.Common.{◌∙◌, ap}
use Rattle.cad_files.specs.Texts.{list_field}
use Rattle.cad_files.proofs.plan_texts.write_parcel.Goals as goal

pub returns : goal.returns
returns c =
    rw (
      c.as_bytes-number.ensures.value ∙ c.format.ensures.text,
      c.get.ensures.value,
      c.as_bytes-label.ensures.value ∙ c.as_str.ensures.value,
      c.as_slice-sources.ensures.value ∙ c.in_ok-sources.ensures ∙ ap list_field c.as_slice.ensures,
    ) at c.write_record.ensures
