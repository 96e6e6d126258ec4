use Rattle.std.proofs.Common.{◌∙◌, ap}
use Rattle.std.specs.Prelude.{◌&&◌, ◌==◌, length}
use Rattle.cad_map.specs.Map.{rings_at}
use Rattle.cad_valid.proofs.CallerLemmas.{outlines-canonical_order, inside-canonical_order, apart-canonical_order}
use Rattle.cad_valid.proofs.CallerLemmas.{holes-shapes, sound-told, outlines-told}
use Rattle.cad_near.specs.Near.{outlines_wanted}
use Rattle.cad_near.proofs.faces.rules_by_shapes.Goals as goal

pub has_sound_holes-requires : goal.has_sound_holes-requires
has_sound_holes-requires g c =
    holes-shapes (g.M.MapView.map c.args.map.now) (rings_at c.args.face.now (g.M.MapView.rings c.args.map.now)) c.in_ok-shapes.shapes c.in_ok-shapes.ensures.shapes

pub returns : goal.returns
returns g c =
    let m = g.M.MapView.map c.args.map.now in
    let bs = g.M.MapView.rings c.args.map.now in
    let f = c.args.face.now in
    let is = c.shapes_of.ensures.canonical_order in
    let told = c.in_ok-shapes.shapes in
    let lie = c.in_ok-shapes.ensures.shapes in
    let outlines =
    c.has_outlines.ensures ∙ ap (λ n. (length told.outlines == n) && told.have_areas) c.outlines_wanted.ensures
    ∙ outlines-told m (rings_at f bs) told lie (outlines_wanted f) ∙ outlines-canonical_order m f bs is (outlines_wanted f) in
    let holes =
    c.in_ok-holes.ensures ∙ sound-told m (rings_at f bs) told lie ∙ (λ i. inside-canonical_order m f bs is i && apart-canonical_order m f bs is i) in
    λ i. record { outlines = outlines i; holes = holes i }
