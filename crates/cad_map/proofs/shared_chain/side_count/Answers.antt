use Rattle.std.proofs.Common.{ap, ◌∙◌, [], ◌∷◌, length, length-append, arith}
use Rattle.cad_rings.proofs.CallerLemmas.{length-sides_of}
use Rattle.cad_map.specs.Rings.{ring_at}
use Rattle.cad_map.specs.Walk.{walking, IsOnRing}
use Rattle.cad_map.proofs.Boundaries.RingsOfMap.{whole_valid}
use Rattle.cad_map.proofs.Walks.Walked.{walked, walked-few, walked-all}
use Rattle.cad_map.proofs.shared_chain.side_count.Goals.{After-next}
use Rattle.cad_map.proofs.shared_chain.side_count.Goals as goal

-- the walk is on the ring
on : (g : _) (c : goal.After-next g) → IsOnRing (g.M.MapView.map c.args.map.now) (ring_at (g.M.MapView.rings c.args.map.now) c.args.face.now c.args.place) c.loop.yielded (walking g.M.MapView.map g.M.MapView.view_next c.loop.iterator')
on g c =
    let told = c.of_ring-items.ensures in
    walked (g.M.MapView.map c.args.map.now) (g.M.MapView.rings c.args.map.now) (whole_valid (g.M.MapView.map c.args.map.now) c.requires.valid) told.canonical_order told.two c.args.face.now c.args.place c.requires.there
    (walking g.M.MapView.map g.M.MapView.view_next) c.of_ring-items.result c.into_iter-iterator.result c.into_iter-iterator.ensures.into_iter_gives told.along c.loop.yielded c.loop.iterator' c.loop.yielded_by

pub overflow_add-count : goal.overflow_add-count
overflow_add-count g c =
    let m = g.M.MapView.map c.args.map.now in
    let told = c.of_ring-items.ensures in
    let goes = (rw c.in-Some.is at c.next.ensures.steps).goes_on in
    let few = walked-few m (g.M.MapView.rings c.args.map.now) (whole_valid m c.requires.valid) told.canonical_order told.two c.args.face.now c.args.place c.requires.there
    c.loop.yielded (walking g.M.MapView.map g.M.MapView.view_next c.loop.iterator') c.in-Some.field-0 _ (on g (goal.at.overflow_add-count g c).After-next) goes in
    let one = length-append c.loop.yielded (c.in-Some.field-0 ∷ []) in
    let now = c.loop.invariant in
    omega (arith, few, one, now)

pub returns : goal.returns
returns g c =
    let m = g.M.MapView.map c.args.map.now in
    let bs = g.M.MapView.rings c.args.map.now in
    let told = c.of_ring-items.ensures in
    let none = rw c.in-None.is at c.next.ensures.steps in
    let all = walked-all m bs (whole_valid m c.requires.valid) told.canonical_order told.two c.args.face.now c.args.place c.requires.there
    c.loop.yielded (walking g.M.MapView.map g.M.MapView.view_next c.loop.iterator') (on g (goal.at.returns g c).After-next) none.first.0 in
    c.loop.invariant ∙ ap length all ∙ length-sides_of (ring_at bs c.args.face.now c.args.place)
