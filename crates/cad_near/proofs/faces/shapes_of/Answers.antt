use Rattle.std.proofs.Common.{◌<◌, ◌≤◌, subst, ℕ, length}
use Rattle.cad_map.specs.Map.{rings_at, position_of}
use Rattle.cad_near.proofs.FaceRings.{told-all}
use Rattle.cad_valid.proofs.CallerLemmas.{told-next}
use Rattle.cad_near.proofs.faces.shapes_of.Goals as goal

pub loop-place-preserved : goal.loop-place-preserved
loop-place-preserved g c =
    let rings = rings_at c.args.face.now (g.M.MapView.rings c.args.map.now) in
    let within : c.loop-place.place < length rings = subst (λ (n : ℕ). c.loop-place.place < n) c.ring_count-place-end.ensures.count c.loop-place-test.true in
    told-next (position_of (g.M.MapView.map c.args.map.now)) rings c.loop-place.place c.loop-place.shapes c.add.new.self c.in_ok-placed_ring.field-0 within c.loop-place.invariant
    c.in_ok-placed_ring.ensures.placed c.in_ok-add.ensures

pub returns-clause-shapes : goal.returns-clause-shapes
returns-clause-shapes g c =
    let rings = rings_at c.args.face.now (g.M.MapView.rings c.args.map.now) in
    let past = subst (λ (n : ℕ). n ≤ c.loop-place.place) c.ring_count-place-end.ensures.count c.loop-place-test.false in
    told-all (position_of (g.M.MapView.map c.args.map.now)) rings c.loop-place.place c.loop-place.shapes past c.loop-place.invariant
