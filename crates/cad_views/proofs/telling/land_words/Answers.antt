use Rattle.std.proofs.Common.{◌≡◌, ◌∙◌, ap, List, ℕ, ◌++◌, to_z, of_z, to_z-of_z, FitsSigned, append_assoc, arith}
use Rattle.std.specs.Prelude.{codes}
use Rattle.std.specs.Int.{w128}
use Rattle.std.proofs.lemmas.Int.{ints}
use Rattle.geo_exact.specs.Measure.{doubled_area}
use Rattle.cad_rows.specs.declared.names.Face.TheVariants.{Parcel}
use Rattle.cad_map.specs.Map.{sum_of_face}
use Rattle.cad_files.specs.Reports.{hundredths_of, area_field}
use Rattle.cad_views.specs.Differences.{at_places, land_words, turns_elsewhere}
use Rattle.cad_views.proofs.telling.land_words.Goals as goal

pub returns : goal.returns
unfolding land_words
returns c =
    let a2 = c.face_area-doubled.result in
    let given : FitsSigned w128 a2 = omega (arith, ints) in
    let fits : FitsSigned w128 c.hundredths.result = omega (arith, ints) in
    let same : to_z w128 (of_z w128 a2) ≡ a2 = to_z-of_z given in
    let hundredths : to_z w128 (of_z w128 c.hundredths.result) ≡ hundredths_of a2 = to_z-of_z fits ∙ c.hundredths.ensures ∙ ap hundredths_of same in
    let area : c.in_ok-text.text.items ≡ area_field (hundredths_of (sum_of_face doubled_area c.args.map.now (Parcel c.args.parcel))) =
    c.in_ok-text.ensures ∙ ap area_field (hundredths ∙ ap hundredths_of c.face_area-doubled.ensures.value) in
    let places : c.as_slice.result.now ≡ turns_elsewhere c.args.map.now c.args.other.now c.args.parcel = c.as_slice.ensures.value ∙ c.in_ok-places.ensures in
    let at = at_places (turns_elsewhere c.args.map.now c.args.other.now c.args.parcel) in
    c.in_ok-push_at_places.ensures ∙ (λ i. c.in_ok-extend_from_slice.ensures.items i ++ at_places (places i))
    ∙ append_assoc c.in_ok-text.text.items (codes " m2") at ∙ ap (λ (l : List ℕ). l ++ (codes " m2" ++ at)) area
