use Rattle.std.proofs.Common.{◌∙◌, ap, get_or, arith}
use Rattle.std.proofs.lemmas.Result.{IfOk-weaker}
use Rattle.cad_rings.specs.SidesLeft.{sides_left}
use Rattle.cad_map.specs.Map.{position_of}
use Rattle.cad_valid.proofs.PlacedRings.{shape-along, first-side, drained}
use Rattle.cad_valid.proofs.holes_swept.placed_ring.Goals as goal

pub returns : goal.returns
returns c =
    let ring = c.args.ring.now in
    let point = c.index-points-0.result in
    let three = c.requires.three in
    let first = first-side ring point (c.index-points-0.is ∙ ap (λ l. get_or l 0 point) c.points.ensures) (omega arith) in
    IfOk-weaker c.of.result _ _
    (λ placed along.
    along.2 ∙ shape-along (position_of c.args.map.now) ring (point, first.0) along.0 first.1
    (drained sides_left c.sides.result along.0 along.1 ∙ c.sides.ensures))
    c.of.ensures
