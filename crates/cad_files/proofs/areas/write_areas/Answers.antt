use Rattle.std.proofs.Common.{◌≡◌, ◌≤◌, ◌∙◌, ◌++◌, sym, ap, map, take, length, ◌<◌, is_some, true, ℤ, pos, negsuc, to_z, of_z, to_z-of_z, FitsSigned, unsigned_abs, arith}
use Rattle.std.specs.Int.{w128}
use Rattle.std.proofs.lemmas.Int.{ints}
use Rattle.std.proofs.lemmas.List.{take_all}
use Rattle.geo_exact.specs.Measure.{doubled_area}
use Rattle.cad_rows.specs.declared.rows.ParcelRow.{ParcelRow}
use Rattle.cad_rows.specs.declared.names.Face.TheVariants.{Parcel}
use Rattle.cad_map.specs.Map.{sum_of_face}
use Rattle.cad_map.proofs.CallerLemmas.{row_with-there, whole_valid}
use Rattle.cad_files.specs.Texts.{record_text, text_of}
use Rattle.cad_files.specs.Reports.{area_record}
use Rattle.cad_files.proofs.TextFacts.{text_of-more}
use Rattle.cad_files.proofs.areas.write_areas.Goals as goal

fits_within : (z : ℤ) → unsigned_abs z ≤ 80000000000000000000000000 → FitsSigned w128 z
fits_within (pos n) h = omega (arith, ints)
fits_within (negsuc n) h = omega (arith, ints)

pub sum_of-requires : goal.sum_of-requires
sum_of-requires g c = whole_valid (g.M.MapView.map c.args.view.now) c.requires

pub unwrap-a2-requires : goal.unwrap-a2-requires
unwrap-a2-requires g c =
    let m = g.M.MapView.map c.args.view.now in
    let at = rw c.unwrap-row.ensures at c.parcel_at.ensures in
    let there : is_some c.sum_of.result ≡ true = c.sum_of.ensures.known ∙ row_with-there (λ (r : ParcelRow). r.number) m.parcels c.loop-place.place _ (sym at) in
    there

pub loop-place-preserved : goal.loop-place-preserved
loop-place-preserved g c = λ text h.
    let m = g.M.MapView.map c.args.view.now in
    let row = c.unwrap-row.result.now in
    let at = rw c.unwrap-row.ensures at c.parcel_at.ensures in
    let within : c.loop-place.place < length m.parcels = rw c.counts-place-end.ensures at c.loop-place-test.true in
    let told = rw c.unwrap-a2.ensures at c.sum_of.ensures.some in
    let small = rw c.unwrap-a2.ensures at c.sum_of.ensures.small in
    let fits : FitsSigned w128 c.unwrap-a2.result = fits_within c.unwrap-a2.result small in
    let a2 : to_z w128 (of_z w128 c.unwrap-a2.result) ≡ sum_of_face doubled_area m (Parcel row.number) = to_z-of_z fits ∙ told in
    let area : ParcelRow → _ = λ r. area_record r (sum_of_face doubled_area m (Parcel r.number)) in
    let before = text ++ text_of (map area (take c.loop-place.place m.parcels)) in
    let same = text_of-more area m.parcels c.loop-place.place row text within (sym at) ∙ ap (λ (z : ℤ). before ++ record_text (area_record row z)) (sym a2) in
    rw same (c.in_ok-write_area.ensures _ (c.loop-place.invariant text h))

pub returns : goal.returns
returns g c = λ text h.
    let m = g.M.MapView.map c.args.view.now in
    let past : length m.parcels ≤ c.loop-place.place = rw c.counts-place-end.ensures at c.loop-place-test.false in
    let whole : take c.loop-place.place m.parcels ≡ m.parcels = take_all c.loop-place.place m.parcels past in
    rw whole at (c.loop-place.invariant text h)
