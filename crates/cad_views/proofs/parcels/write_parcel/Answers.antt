use Rattle.std.proofs.Common.{◌≡◌, ◌≤◌, ◌∙◌, refl, sym, ap, subst, List, length, to_z, of_z, to_z-of_z, FitsSigned, arith}
use Rattle.std.specs.List.{AllByRecursion}
use Rattle.std.specs.Int.{w128}
use Rattle.std.proofs.lemmas.Int.{ints}
use Rattle.std.specs.Fmt.{signed_decimal}
use Rattle.cad_rows.specs.declared.names.Face.TheVariants.{Parcel}
use Rattle.cad_rings.specs.Cycle.{Ring}
use Rattle.cad_files.specs.Reports.{hundredths_of, area_field}
use Rattle.cad_files.specs.Texts.{list_field}
use Rattle.cad_views.specs.Tables.{parcel_row}
use Rattle.cad_views.specs.WellKnown.{polygon_geometry}
use Rattle.cad_views.proofs.CutFacts.{pieces-few}
use Rattle.cad_views.proofs.parcels.write_parcel.Goals as goal

pub polygon_geometry-requires : goal.polygon_geometry-requires
polygon_geometry-requires c =
    let few = pieces-few c.args.map.now c.requires (Parcel c.args.row.now.number) c.in_ok-pieces.pieces.items c.in_ok-pieces.ensures.sides in
    subst (λ (rs : List Ring). AllByRecursion (λ r. length r ≤ 400000) rs) (sym c.as_slice-2.ensures.value) few

pub returns : goal.returns
returns c =
    let m = c.args.map.now in
    let row = c.args.row.now in
    let a2 = c.face_area-doubled.result in
    let pieces = c.in_ok-pieces.pieces.items in
    let given : FitsSigned w128 a2 = omega (arith, ints) in
    let fits : FitsSigned w128 c.hundredths.result = omega (arith, ints) in
    let same : to_z w128 (of_z w128 a2) ≡ a2 = to_z-of_z given in
    let hundredths : to_z w128 (of_z w128 c.hundredths.result) ≡ hundredths_of a2 = to_z-of_z fits ∙ c.hundredths.ensures ∙ ap hundredths_of same in (
      parcel_row m row pieces,
      record { pieces = pieces; cut = c.in_ok-pieces.ensures; is = refl },
      rw (
        c.as_bytes-number.ensures.value ∙ c.format.ensures.text,
        c.get.ensures.value,
        c.as_bytes-label.ensures.value ∙ c.as_str.ensures.value,
        c.as_slice-area.ensures.value ∙ c.in_ok-area.ensures ∙ ap area_field (hundredths ∙ ap hundredths_of c.face_area-doubled.ensures.value),
        c.as_bytes-doubled.ensures.value ∙ c.format-2.ensures.text ∙ ap signed_decimal (same ∙ c.face_area-doubled.ensures.value),
        c.as_slice-sources.ensures.value ∙ c.in_ok-sources.ensures ∙ ap list_field c.as_slice.ensures,
        c.as_slice-geometry.ensures.value ∙ c.in_ok-geometry.ensures ∙ ap (polygon_geometry m) c.as_slice-2.ensures.value,
      ) at c.in_ok-write_record.ensures,
    )
