use Rattle.std.proofs.Common.{◌∙◌, map}
use Rattle.std.proofs.lemmas.Result.{IfOk-weaker}
use Rattle.std.proofs.lemmas.Simd.{map-map}
use Rattle.geo_exact.specs.Inside.{is_inside}
use Rattle.cad_rings.specs.Cycle.{Ring, anchor_of, placed, sides_of}
use Rattle.cad_map.specs.Map.{rings_at, position_of}
use Rattle.cad_surgery.proofs.edits.moved.insides_of_many.Goals as goal

pub returns : goal.returns
returns g c =
    let m = g.M.MapView.map c.args.map.now in
    let rings = rings_at c.args.face.now (g.M.MapView.rings c.args.map.now) in
    let anchors = c.as_slice.ensures.value ∙ c.in_ok-anchors.ensures in
    let sides = c.as_slice-2.ensures.value ∙ c.in_ok-sides.ensures in
    IfOk-weaker c.insides_of.result _ _ (λ inside is. is
    ∙ (λ i. map (is_inside (sides i)) (anchors i))
    ∙ map-map (is_inside (placed (position_of m) (sides_of c.args.ring.now))) (λ (r : Ring). position_of m (anchor_of r)) rings) c.insides_of.ensures
