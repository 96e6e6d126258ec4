use Rattle.std.proofs.Common.{◌∙◌, ap}
use Rattle.cad_files.specs.Texts.{list_field}
use Rattle.cad_files.proofs.outline_texts.write_ring.Goals as goal

pub returns : goal.returns
returns c =
    rw (c.as_bytes-number.ensures.value ∙ c.format.ensures.text ∙ c.face_number.ensures, c.as_slice-points.ensures.value ∙ c.in_ok-points.ensures ∙ ap list_field c.points.ensures)
    at c.write_record.ensures
