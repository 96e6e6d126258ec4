use Rattle.std.proofs.Common.{◌∙◌, ap}
use Rattle.cad_files.specs.Texts.{list_field}
use Rattle.cad_views.proofs.tables.write_point.Goals as goal

pub returns : goal.returns
returns c =
    rw (
      c.as_bytes-number.ensures.value ∙ c.format.ensures.text,
      c.get.ensures.value,
      c.as_slice-sources.ensures.value ∙ c.in_ok-sources.ensures ∙ ap list_field c.as_slice.ensures,
      c.as_slice-geometry.ensures.value ∙ c.in_ok-geometry.ensures,
    ) at c.write_record.ensures
