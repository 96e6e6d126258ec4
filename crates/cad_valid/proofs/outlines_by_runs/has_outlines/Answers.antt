use Rattle.std.proofs.Common.{◌≡◌, ◌∙◌, sym, ap, subst, [], get_or, arith, to_z-of_z, FitsSigned}
use Rattle.std.specs.Int.{w128}
use Rattle.std.proofs.lemmas.Int.{ints}
use Rattle.geo_exact.specs.Measure.{doubled_area}
use Rattle.cad_map.specs.Map.{rings_of, sum_of_ring}
use Rattle.cad_valid.specs.Rings.{IsRingOf}
use Rattle.cad_valid.proofs.OutlineCounts.{counted-next, counted-few, counted-all}
use Rattle.cad_valid.proofs.RingsInMap.{rings-of_map, ring-in_run, ring-at_run, run-length}
use Rattle.cad_valid.proofs.outlines_by_runs.has_outlines.Goals as goal

pub sum_round-requires : goal.sum_round-requires
sum_round-requires c =
    (subst (λ (b : _). IsRingOf c.args.map.now b.ring) (sym c.boundary-item.is)
    (ring-in_run c.run_of-boundary-items.result.now (rings_of c.args.map.now c.args.face) c.run_of-boundary-items.ensures (IsRingOf c.args.map.now) (rings-of_map c.args.map.now c.requires c.args.face)
    c.loop-boundary.boundary-index c.boundary-item.result c.loop-boundary-test.true)).few

pub add-requires : goal.add-requires
add-requires c =
    let few = counted-few c.args.map.now (rings_of c.args.map.now c.args.face) c.loop-boundary.boundary-index c.loop-boundary.outlines c.loop-boundary.invariant in
    omega arith

pub loop-boundary-preserved : goal.loop-boundary-preserved
loop-boundary-preserved c =
    let m = c.args.map.now in
    let rings = rings_of m c.args.face in
    let run = c.run_of-boundary-items.result.now in
    let place = c.loop-boundary.boundary-index in
    let long = run-length run rings c.run_of-boundary-items.ensures in
    let fits : FitsSigned w128 c.sum_round.result = omega (arith, ints) in
    let at : c.boundary-item.result.ring ≡ get_or rings place [] =
    ap (λ (b : _). b.ring) c.boundary-item.is ∙ ring-at_run run rings c.run_of-boundary-items.ensures place c.boundary-item.result c.loop-boundary-test.true in
    counted-next m rings place c.sum_round.result c.loop-boundary.outlines c.add.new.self (omega arith)
    (c.sum_round.ensures ∙ ap (sum_of_ring doubled_area m) at) c.loop-boundary.invariant (simp to_z-of_z at c.add.ensures)

pub returns : goal.returns
returns c =
    let rings = rings_of c.args.map.now c.args.face in
    let long = run-length c.run_of-boundary-items.result.now rings c.run_of-boundary-items.ensures in
    c.is.ensures ∙ counted-all c.args.map.now rings c.loop-boundary.boundary-index c.args.wanted c.loop-boundary.outlines (omega arith) c.loop-boundary.invariant
