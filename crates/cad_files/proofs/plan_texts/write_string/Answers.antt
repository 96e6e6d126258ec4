use Rattle.std.proofs.Common.{◌∙◌, ap}
use Rattle.cad_files.specs.Texts.{list_field}
use Rattle.cad_files.proofs.plan_texts.write_string.Goals as goal

pub returns : goal.returns
returns c =
    rw (
      c.as_bytes-number.ensures.value ∙ c.format.ensures.text,
      c.get.ensures.value,
      c.as_bytes-from.ensures.value ∙ c.format-2.ensures.text,
      c.get-2.ensures.value,
      c.as_bytes-to.ensures.value ∙ c.format-3.ensures.text,
      c.get-3.ensures.value,
      c.as_bytes-left.ensures.value ∙ c.format-4.ensures.text ∙ c.face_number.ensures,
      c.as_bytes-right.ensures.value ∙ c.format-5.ensures.text ∙ c.face_number-2.ensures,
      c.as_slice-sources.ensures.value ∙ c.in_ok-sources.ensures ∙ ap list_field c.as_slice.ensures,
    ) at c.write_record.ensures
