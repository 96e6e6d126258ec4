use Rattle.std.proofs.Common.{◌≡◌, ◌∙◌, sym, ap, Bool, ◌&&◌, to_z, of_z, to_z-of_z, FitsSigned, arith}
use Rattle.std.specs.Int.{w128}
use Rattle.std.proofs.lemmas.Bool.Decides.{Decides-int_eq}
use Rattle.std.proofs.lemmas.Int.{ints}
use Rattle.geo_exact.specs.Measure.{doubled_area}
use Rattle.cad_rows.specs.declared.names.Face.TheVariants.{Parcel}
use Rattle.cad_map.specs.Map.{sum_of_face}
use Rattle.cad_views.specs.Land.{are_same_places, is_same_land, turns_of}
use Rattle.cad_views.proofs.LandFacts.{so_false}
use Rattle.cad_views.proofs.land.is_same_land.Goals as goal

pub returns-then-face_area : goal.returns-then-face_area
unfolding is_same_land
returns-then-face_area c =
    let face = Parcel c.args.parcel in
    let was = sum_of_face doubled_area c.args.old.now face in
    let is = sum_of_face doubled_area c.args.new.now face in
    let places = are_same_places (turns_of c.args.old.now face) (turns_of c.args.new.now face) in
    ap (λ (t : Bool). t && places)
    (sym (so_false _ (λ t. c.if-face_area.true (ap (of_z w128) (c.face_area.ensures.value ∙ (Decides-int_eq was is).0 t ∙ sym c.face_area-2.ensures.value)))))

pub returns : goal.returns
unfolding is_same_land
returns c =
    let face = Parcel c.args.parcel in
    let was = sum_of_face doubled_area c.args.old.now face in
    let is = sum_of_face doubled_area c.args.new.now face in
    let fits : FitsSigned w128 c.face_area.result = let small = c.face_area.ensures.small in omega (arith, ints) in
    let fits_too : FitsSigned w128 c.face_area-2.result = let small = c.face_area-2.ensures.small in omega (arith, ints) in
    let same : c.face_area.result ≡ c.face_area-2.result = sym (to_z-of_z fits) ∙ ap (to_z w128) c.if-face_area.false ∙ to_z-of_z fits_too in
    let places = are_same_places (turns_of c.args.old.now face) (turns_of c.args.new.now face) in
    c.are_same_places.ensures ∙ (λ i. are_same_places (c.in_ok-was.ensures i) (c.in_ok-is.ensures i))
    ∙ ap (λ (t : Bool). t && places) (sym ((Decides-int_eq was is).1 (sym c.face_area.ensures.value ∙ same ∙ c.face_area-2.ensures.value)))
