use Rattle.std.proofs.Common.{ap, ◌∙◌, List, [], ◌∷◌, ◌++◌, filter, length, arith}
use Rattle.cad_rings.specs.Cycle.{Side}
use Rattle.cad_map.specs.Steps.{has_twin_in}
use Rattle.cad_map.specs.Rings.{ring_at}
use Rattle.cad_map.specs.Walk.{walking, IsOnRing}
use Rattle.cad_map.proofs.Boundaries.RingsOfMap.{whole_valid}
use Rattle.cad_map.proofs.Boundaries.SideCounts.{filter-push, filter-few}
use Rattle.cad_map.proofs.Walks.Walked.{walked, walked-few, walked-all}
use Rattle.cad_map.proofs.shared_chain.shared_in_ring.Goals.{After-next}
use Rattle.cad_map.proofs.shared_chain.shared_in_ring.Goals as goal

pub loop-a-preserved : goal.loop-a-preserved
loop-a-preserved g c =
    filter-push (has_twin_in (g.M.MapView.map c.args.map.now) c.args.other.now) c.loop-a.yielded (c.in-Some.a, c.in-Some.b) c.loop-a.count c.one_if-count.result c.has_twin_in.result c.loop-a.invariant c.has_twin_in.ensures c.one_if-count.ensures

-- the walk is on the ring
on : (g : _) (c : goal.After-next g) → IsOnRing (g.M.MapView.map c.args.map.now) (ring_at (g.M.MapView.rings c.args.map.now) c.args.face.now c.args.place) c.loop-a.yielded (walking g.M.MapView.map g.M.MapView.view_next c.loop-a.a-iterator)
on g c =
    let told = c.of_ring-a-items.ensures in
    walked (g.M.MapView.map c.args.map.now) (g.M.MapView.rings c.args.map.now) (whole_valid (g.M.MapView.map c.args.map.now) c.requires.valid) told.canonical_order told.two c.args.face.now c.args.place c.requires.there
    (walking g.M.MapView.map g.M.MapView.view_next) c.of_ring-a-items.result c.into_iter-a-iterator.result c.into_iter-a-iterator.ensures.into_iter_gives told.along c.loop-a.yielded c.loop-a.a-iterator c.loop-a.yielded_by

pub overflow_add-count : goal.overflow_add-count
overflow_add-count g c =
    let m = g.M.MapView.map c.args.map.now in
    let told = c.of_ring-a-items.ensures in
    let goes = (rw c.in-Some.is at c.next.ensures.steps).goes_on in
    let side : Side = (c.in-Some.a, c.in-Some.b) in
    let few = walked-few m (g.M.MapView.rings c.args.map.now) (whole_valid m c.requires.valid) told.canonical_order told.two c.args.face.now c.args.place c.requires.there
    c.loop-a.yielded (walking g.M.MapView.map g.M.MapView.view_next c.loop-a.a-iterator) side _ (on g (goal.at.overflow_add-count g c).After-next) goes in
    let some = filter-few (has_twin_in m c.args.other.now) (c.loop-a.yielded ++ side ∷ []) in
    let now = loop-a-preserved g c in
    omega (arith, few, some, now)

pub returns : goal.returns
returns g c =
    let m = g.M.MapView.map c.args.map.now in
    let told = c.of_ring-a-items.ensures in
    let none = rw c.in-None.is at c.next.ensures.steps in
    let all = walked-all m (g.M.MapView.rings c.args.map.now) (whole_valid m c.requires.valid) told.canonical_order told.two c.args.face.now c.args.place c.requires.there
    c.loop-a.yielded (walking g.M.MapView.map g.M.MapView.view_next c.loop-a.a-iterator) (on g (goal.at.returns g c).After-next) none.first.0 in
    c.loop-a.invariant ∙ ap (λ (sides : List Side). length (filter (has_twin_in m c.args.other.now) sides)) all
