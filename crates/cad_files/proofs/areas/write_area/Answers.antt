use Rattle.std.proofs.Common.{◌≡◌, ◌∙◌, ap, to_z, of_z, to_z-of_z, FitsSigned, arith}
use Rattle.std.specs.Int.{w128}
use Rattle.std.proofs.lemmas.Int.{ints}
use Rattle.std.specs.Fmt.{signed_decimal}
use Rattle.cad_files.specs.Reports.{hundredths_of, area_field}
use Rattle.cad_files.proofs.areas.write_area.Goals as goal

pub returns : goal.returns
returns c =
    let fits : FitsSigned w128 c.hundredths.result = omega (arith, ints) in
    let given : FitsSigned w128 c.args.a2 = omega (arith, ints) in
    let same : to_z w128 (of_z w128 c.args.a2) ≡ c.args.a2 = to_z-of_z given in
    let hundredths : to_z w128 (of_z w128 c.hundredths.result) ≡ hundredths_of c.args.a2 = to_z-of_z fits ∙ c.hundredths.ensures ∙ ap hundredths_of same in
    rw (
      c.as_bytes-number.ensures.value ∙ c.format.ensures.text,
      c.get.ensures.value,
      c.as_bytes-label.ensures.value ∙ c.as_str.ensures.value,
      c.as_bytes-doubled.ensures.value ∙ c.format-2.ensures.text ∙ ap signed_decimal same,
      c.as_slice-area.ensures.value ∙ c.in_ok-area.ensures ∙ ap area_field hundredths,
    ) at c.write_record.ensures
