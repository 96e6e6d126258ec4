use Rattle.std.proofs.Common.{◌≡◌, sym, subst, ap, ◌∙◌, List, [], ◌∷◌, ◌++◌, ℤ, ◌+ℤ◌, to_z, to_z-of_z, FitsSigned, length, ◌≤◌, arith}
use Rattle.std.specs.Int.{w128}
use Rattle.std.proofs.lemmas.Int.{ints}
use Rattle.cad_rings.specs.Cycle.{Side}
use Rattle.cad_map.specs.Rings.{ring_at}
use Rattle.cad_map.specs.Walk.{walking, IsOnRing}
use Rattle.cad_rings.specs.Cycle.{placed}
use Rattle.geo_exact.specs.Measure.{sum_over}
use Rattle.cad_map.specs.Map.{position_of}
use Rattle.cad_map.proofs.Walks.Walked.{walked, walked-few, walked-all, sum-more, sum-fits}
use Rattle.cad_map.proofs.rings.ring_sum.Goals.{After-next, In-Some, After-of-sum}
use Rattle.cad_map.proofs.rings.ring_sum.Goals as goal

-- the walk is on the ring
on : (g : _) (c : goal.After-next g) → IsOnRing (g.M.MapView.map c.args.map.now) (ring_at (g.M.MapView.rings c.args.map.now) c.args.face.now c.args.place) c.loop-a.yielded (walking g.M.MapView.map g.M.MapView.view_next c.loop-a.a-iterator)
on g c =
    let told = c.of_ring-walk.ensures in
    walked (g.M.MapView.map c.args.map.now) (g.M.MapView.rings c.args.map.now) c.requires.whole told.canonical_order told.two c.args.face.now c.args.place c.requires.there
    (walking g.M.MapView.map g.M.MapView.view_next) c.of_ring-walk.result c.into_iter-a-iterator.result c.into_iter-a-iterator.ensures.into_iter_gives told.along c.loop-a.yielded c.loop-a.a-iterator c.loop-a.yielded_by

-- with the measure of one side more it is the sum of one side more
more : (g : _) (c : goal.After-of-sum g) → sum_over (g.F.SideMeasure.measure c.args.measure.now) (placed (position_of (g.M.MapView.map c.args.map.now)) (c.loop-a.yielded ++ (c.in-Some.a, c.in-Some.b) ∷ []))
    ≡ to_z w128 c.loop-a.sum-bits +ℤ c.of-sum.result
more g c =
    let f = g.F.SideMeasure.measure c.args.measure.now in
    sum-more f (position_of (g.M.MapView.map c.args.map.now)) c.loop-a.yielded (c.in-Some.a, c.in-Some.b)
    ∙ (λ i. sym c.loop-a.invariant.sum i +ℤ f (sym c.position_beside-from.ensures i) (sym c.position-lies-in-loop-a.ensures i)) ∙ ap (λ (z : ℤ). to_z w128 c.loop-a.sum-bits +ℤ z) (sym c.of-sum.ensures.value)

-- both fit
one_fits : (g : _) (c : goal.After-of-sum g) → FitsSigned w128 c.of-sum.result
one_fits g c = let small = c.of-sum.ensures.small in omega (arith, ints)

few : (g : _) (c : goal.In-Some g) → length (c.loop-a.yielded ++ (c.in-Some.a, c.in-Some.b) ∷ []) ≤ 400000
few g c =
    let told = c.of_ring-walk.ensures in
    let goes = (rw c.in-Some.is at c.next.ensures.steps).goes_on in
    walked-few (g.M.MapView.map c.args.map.now) (g.M.MapView.rings c.args.map.now) c.requires.whole told.canonical_order told.two c.args.face.now c.args.place c.requires.there
    c.loop-a.yielded (walking g.M.MapView.map g.M.MapView.view_next c.loop-a.a-iterator) (c.in-Some.a, c.in-Some.b) _ (on g c.before) goes

sum_fits : (g : _) (c : goal.After-of-sum g) → length (c.loop-a.yielded ++ (c.in-Some.a, c.in-Some.b) ∷ []) ≤ 400000 → FitsSigned w128 (to_z w128 c.loop-a.sum-bits +ℤ c.of-sum.result)
sum_fits g c short =
    subst (FitsSigned w128) (more g c)
    (sum-fits (g.M.MapView.map c.args.map.now) c.requires.whole.v1 (g.F.SideMeasure.measure c.args.measure.now) (g.met.F.SideMeasure.bounded c.args.measure.now) (c.loop-a.yielded ++ (c.in-Some.a, c.in-Some.b) ∷ []) short)

pub overflow_add-sum : goal.overflow_add-sum
overflow_add-sum g c =
    let at = goal.at.overflow_add-sum g c in
    let one = one_fits g at.After-of-sum in
    let sum = sum_fits g at.After-of-sum (few g at.In-Some) in
    simp to_z-of_z sum

pub loop-a-preserved : goal.loop-a-preserved
loop-a-preserved g c =
    let at = goal.at.loop-a-preserved g c in
    let one = one_fits g at.After-of-sum in
    let sum = sum_fits g at.After-of-sum (few g at.In-Some) in
    record {
      sum = simp to_z-of_z (sym (more g at.After-of-sum));
      lies = c.position-lies-in-loop-a.ensures;
    }

pub returns : goal.returns
returns g c =
    let m = g.M.MapView.map c.args.map.now in
    let told = c.of_ring-walk.ensures in
    let none = rw c.in-None.is at c.next.ensures.steps in
    let all = walked-all m (g.M.MapView.rings c.args.map.now) c.requires.whole told.canonical_order told.two c.args.face.now c.args.place c.requires.there
    c.loop-a.yielded (walking g.M.MapView.map g.M.MapView.view_next c.loop-a.a-iterator) (on g (goal.at.returns g c).After-next) none.first.0 in
    c.loop-a.invariant.sum ∙ ap (λ (sides : List Side). sum_over (g.F.SideMeasure.measure c.args.measure.now) (placed (position_of m) sides)) all
