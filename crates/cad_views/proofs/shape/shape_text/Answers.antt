use Rattle.std.proofs.Common.{◌≡◌, ◌≤◌, ◌∙◌, sym, ap, subst, List, length, true, is_some}
use Rattle.std.specs.List.{AllByRecursion}
use Rattle.cad_rows.specs.declared.names.Face.TheVariants.{Parcel}
use Rattle.cad_rings.specs.Cycle.{Ring}
use Rattle.cad_map.specs.Map.{has_face, rings_of}
use Rattle.cad_map.specs.Outline.{outline_of}
use Rattle.cad_views.specs.Cut.{AreCutFrom, HasTwoEndsEach}
use Rattle.cad_views.proofs.CutFacts.{pieces-few}
use Rattle.cad_views.proofs.ShapeFacts.{outline-apart, cut-outline, no-parcel}
use Rattle.cad_views.proofs.shape.shape_text.Goals as goal

pub cut_each-requires : goal.cut_each-requires
cut_each-requires g c =
    let m = g.M.MapView.map c.args.map.now in
    let rings = c.as_slice.ensures.value ∙ (rw c.in-Some.is at c.in_ok-rings.ensures.some) in
    subst (AllByRecursion HasTwoEndsEach) (sym rings) (outline-apart m c.requires (Parcel c.args.parcel))

pub polygon_geometry-requires : goal.polygon_geometry-requires
polygon_geometry-requires g c =
    let m = g.M.MapView.map c.args.map.now in
    let f = Parcel c.args.parcel in
    let rings = c.as_slice.ensures.value ∙ (rw c.in-Some.is at c.in_ok-rings.ensures.some) in
    let cut = cut-outline m f c.in_ok-pieces-in-Some.pieces.items (subst (λ (rs : List Ring). AreCutFrom rs c.in_ok-pieces-in-Some.pieces.items) rings c.in_ok-pieces-in-Some.ensures) in
    subst (λ (rs : List Ring). AllByRecursion (λ r. length r ≤ 400000) rs) (sym c.as_slice-in-Some.ensures.value) (pieces-few m c.requires f c.in_ok-pieces-in-Some.pieces.items cut.sides)

pub returns-in_ok-text-in-Some : goal.returns-in_ok-text-in-Some
returns-in_ok-text-in-Some g c =
    let m = g.M.MapView.map c.args.map.now in
    let f = Parcel c.args.parcel in
    let rings = c.as_slice.ensures.value ∙ (rw c.in-Some.is at c.in_ok-rings.ensures.some) in
    let known : has_face m f ≡ true = sym c.in_ok-rings.ensures.known ∙ ap is_some c.in-Some.is in
    let cut = cut-outline m f c.in_ok-pieces-in-Some.pieces.items (subst (λ (rs : List Ring). AreCutFrom rs c.in_ok-pieces-in-Some.pieces.items) rings c.in_ok-pieces-in-Some.ensures) in
    (known, c.as_slice-in-Some.result.now, subst (λ (rs : List Ring). AreCutFrom (rings_of m f) rs) (sym c.as_slice-in-Some.ensures.value) cut, c.in_ok-text-in-Some.ensures)

pub returns-in-None : goal.returns-in-None
returns-in-None g c =
    let m = g.M.MapView.map c.args.map.now in
    no-parcel m c.args.parcel (sym c.in_ok-rings.ensures.known ∙ ap is_some c.in-None.is)
