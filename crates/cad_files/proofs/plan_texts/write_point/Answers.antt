use Rattle.std.proofs.Common.{◌∙◌, ap, to_z-of_z, FitsSigned, arith}
use Rattle.std.specs.Int.{w64}
use Rattle.std.proofs.lemmas.Int.{ints}
use Rattle.std.specs.Fmt.{signed_decimal}
use Rattle.cad_files.specs.Texts.{list_field}
use Rattle.cad_files.proofs.plan_texts.write_point.Goals as goal

pub returns : goal.returns
returns c =
    let position = c.row.inside.0.1.0 in
    let x_fits : FitsSigned w64 position.x = omega (arith, ints) in
    let y_fits : FitsSigned w64 position.y = omega (arith, ints) in
    rw (← c.row.view_is) (
    rw (
      c.as_bytes-number.ensures.value ∙ c.format.ensures.text,
      c.get.ensures.value,
      c.as_bytes-x.ensures.value ∙ c.format-2.ensures.text ∙ ap signed_decimal (to_z-of_z x_fits),
      c.as_bytes-y.ensures.value ∙ c.format-3.ensures.text ∙ ap signed_decimal (to_z-of_z y_fits),
      c.as_slice-sources.ensures.value ∙ c.in_ok-sources.ensures ∙ ap list_field c.as_slice.ensures,
    ) at c.write_record.ensures
    )
