use Rattle.std.proofs.Common.{ℕ, ◌<◌, ◌≤◌, ◌∙◌, subst, length, arith, to_z-of_z, FitsSigned}
use Rattle.std.specs.Int.{w128}
use Rattle.std.proofs.lemmas.Int.{ints}
use Rattle.cad_map.specs.Map.{rings_at}
use Rattle.cad_valid.proofs.FacesOfMap.{outlines-canonical_order}
use Rattle.cad_valid.proofs.OutlineCounts.{counted-next, counted-few, counted-all}
use Rattle.cad_valid.proofs.outlines.has_outlines.Goals as goal

pub add-requires : goal.add-requires
add-requires g c =
    let few = counted-few (g.M.MapView.map c.args.map.now) (rings_at c.args.face.now (g.M.MapView.rings c.args.map.now)) c.loop-place.place c.loop-place.outlines c.loop-place.invariant in
    omega arith

pub loop-place-preserved : goal.loop-place-preserved
loop-place-preserved g c =
    let rings = rings_at c.args.face.now (g.M.MapView.rings c.args.map.now) in
    let within : c.loop-place.place < length rings = subst (λ (n : ℕ). c.loop-place.place < n) c.ring_count-place-end.ensures.count c.loop-place-test.true in
    let fits : FitsSigned w128 c.doubled_area_of.result = omega (arith, ints) in
    counted-next (g.M.MapView.map c.args.map.now) rings c.loop-place.place c.doubled_area_of.result c.loop-place.outlines c.add.new.self within c.doubled_area_of.ensures c.loop-place.invariant
    (simp to_z-of_z at c.add.ensures)

pub returns : goal.returns
returns g c =
    let m = g.M.MapView.map c.args.map.now in
    let told = c.ring_count-place-end.ensures in
    let past = subst (λ (n : ℕ). n ≤ c.loop-place.place) told.count c.loop-place-test.false in
    c.is.ensures ∙ counted-all m _ c.loop-place.place c.args.wanted c.loop-place.outlines past c.loop-place.invariant
    ∙ outlines-canonical_order m c.args.face.now _ told.canonical_order c.args.wanted
