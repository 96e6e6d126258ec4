use Rattle.std.proofs.Common.{◌≡◌, ◌<◌, ◌∙◌, sym, ap, subst, List, length, map, get_or, [], arith}
use Rattle.std.proofs.lemmas.List.{length-map, get_or-map}
use Rattle.cad_rings.specs.Cycle.{Ring}
use Rattle.cad_map.specs.declared.boundary.Boundary.{Boundary}
use Rattle.cad_map.specs.Map.{position_of}
use Rattle.cad_valid.specs.Rings.{IsRingOf}
use Rattle.cad_valid.specs.Shapes.{shape_of}
use Rattle.cad_valid.proofs.RingsInMap.{ring-in_run}
use Rattle.cad_valid.proofs.ShapesOfFace.{placed-few, told-next}
use Rattle.cad_valid.proofs.holes_swept.shapes_of.Goals as goal

pub placed_ring-requires : goal.placed_ring-requires
placed_ring-requires c =
    subst (λ (b : Boundary). IsRingOf c.args.map.now b.ring) (sym c.boundary-item.is)
    (ring-in_run c.args.run.now (map (λ (b : Boundary). b.ring) c.args.run.now) (λ i. map (λ (b : Boundary). b.ring) c.args.run.now) (IsRingOf c.args.map.now) c.requires
    c.loop-boundary.boundary-index c.boundary-item.result c.loop-boundary-test.true)

pub add-requires : goal.add-requires
add-requires c =
    let one = ring-in_run c.args.run.now (map (λ (b : Boundary). b.ring) c.args.run.now) (λ i. map (λ (b : Boundary). b.ring) c.args.run.now) (IsRingOf c.args.map.now) c.requires
    c.loop-boundary.boundary-index c.boundary-item.result c.loop-boundary-test.true in
    placed-few (position_of c.args.map.now) c.boundary-item.result.ring c.in_ok-placed_ring.field-0 c.in_ok-placed_ring.ensures
    (subst (λ (b : Boundary). IsRingOf c.args.map.now b.ring) (sym c.boundary-item.is) one).few

pub loop-boundary-preserved : goal.loop-boundary-preserved
loop-boundary-preserved c =
    let position = position_of c.args.map.now in
    let run = c.args.run.now in
    let rings : List Ring = map (λ (b : Boundary). b.ring) run in
    let ring : Ring = c.boundary-item.result.ring in
    let place = c.loop-boundary.boundary-index in
    let long = length-map run (λ (b : Boundary). b.ring) in
    let within : place < length rings = omega arith in
    let at : ring ≡ get_or rings place [] =
    ap (λ (b : Boundary). b.ring) c.boundary-item.is ∙ sym (get_or-map (λ (b : Boundary). b.ring) run place c.boundary-item.result [] c.loop-boundary-test.true) in
    told-next position rings place c.loop-boundary.shapes c.add.new.self c.in_ok-placed_ring.field-0 within c.loop-boundary.invariant
    (c.in_ok-placed_ring.ensures ∙ ap (shape_of position) at) c.in_ok-add.ensures
