use Rattle.std.proofs.Common.{◌≡◌, ◌≤◌, sym, subst, ap, ◌∙◌, map, length}
use Rattle.std.specs.Prelude.{IfOk}
use Rattle.cad_rings.specs.Cycle.{Ring, Side, sides_of}
use Rattle.cad_map.specs.Walk.{walking, IsOnRing}
use Rattle.cad_map.specs.Rings.{ring_at}
use Rattle.cad_map.proofs.Lists.Elements.{All-at_each}
use Rattle.cad_map.proofs.Boundaries.RingsOfMap.{ring-there}
use Rattle.cad_map.proofs.Walks.Walked.{walked, walked-all, first_points}
use Rattle.cad_map.proofs.outlines.ring_at.Goals.{After-next, In-None, After-as_slice}
use Rattle.cad_map.proofs.outlines.ring_at.Goals as goal

-- the walk is on the ring
on : (g : _) (c : goal.After-next g) → IsOnRing (g.M.MapView.map c.args.map.now) (ring_at (g.M.MapView.rings c.args.map.now) c.args.face.now c.args.place) c.loop-point.yielded (walking g.M.MapView.map g.M.MapView.view_next c.loop-point.point-iterator)
on g c =
    let told = c.of_ring-point-items.ensures in
    walked (g.M.MapView.map c.args.map.now) (g.M.MapView.rings c.args.map.now) c.requires.whole told.canonical_order told.two c.args.face.now c.args.place c.requires.there
    (walking g.M.MapView.map g.M.MapView.view_next) c.of_ring-point-items.result c.into_iter-point-iterator.result c.into_iter-point-iterator.ensures.into_iter_gives told.along c.loop-point.yielded c.loop-point.point-iterator c.loop-point.yielded_by

-- at its end it has given all sides
all : (g : _) (c : goal.In-None g) → c.loop-point.yielded ≡ sides_of (ring_at (g.M.MapView.rings c.args.map.now) c.args.face.now c.args.place)
all g c =
    let told = c.of_ring-point-items.ensures in
    let none = rw c.in-None.is at c.next.ensures.steps in
    walked-all (g.M.MapView.map c.args.map.now) (g.M.MapView.rings c.args.map.now) c.requires.whole told.canonical_order told.two c.args.face.now c.args.place c.requires.there
    c.loop-point.yielded (walking g.M.MapView.map g.M.MapView.view_next c.loop-point.point-iterator) (on g c.before) none.first.0

-- and its points are those of the ring
points : (g : _) (c : goal.After-as_slice g) → c.loop-point.yielded ≡ sides_of (ring_at (g.M.MapView.rings c.args.map.now) c.args.face.now c.args.place) → c.as_slice.result.now ≡ ring_at (g.M.MapView.rings c.args.map.now) c.args.face.now c.args.place
points g c given =
    c.as_slice.ensures.value ∙ c.loop-point.invariant ∙ ap (map (λ (s : Side). s.0)) given
    ∙ first_points (ring_at (g.M.MapView.rings c.args.map.now) c.args.face.now c.args.place)

pub from_points-requires : goal.from_points-requires
from_points-requires g c =
    let at = goal.at.from_points-requires g c in
    let bs = g.M.MapView.rings c.args.map.now in
    let told = c.of_ring-point-items.ensures in
    let found = ring-there (g.M.MapView.map c.args.map.now) bs c.requires.whole told.canonical_order told.two c.args.face.now c.args.place c.requires.there in
    let long = All-at_each (λ b. 2 ≤ length b.ring) bs found.0 told.two found.1 in
    subst (λ (r : Ring). 2 ≤ length r) (found.2 ∙ sym (points g at.After-as_slice (all g at.In-None))) long

pub returns : goal.returns
returns g c =
    let at = goal.at.returns g c in
    subst (λ (r : Ring). IfOk c.from_points.result (λ ring. ring ≡ r)) (points g at.After-as_slice (all g at.In-None)) c.from_points.ensures
