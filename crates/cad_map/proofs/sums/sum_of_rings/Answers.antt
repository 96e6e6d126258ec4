use Rattle.std.proofs.Common.{◌≡◌, take, ℤ, ℕ, ◌+◌, ◌<◌, ◌≤◌, sym, subst, ◌∙◌, length, ◌+ℤ◌, to_z, to_z-of_z, FitsSigned, unsigned_abs, arith}
use Rattle.std.specs.Prelude.{flat_map}
use Rattle.std.specs.Int.{w128}
use Rattle.geo_exact.specs.Measure.{sum_over}
use Rattle.cad_rings.specs.Cycle.{placed, sides_of}
use Rattle.std.proofs.lemmas.Int.{ints}
use Rattle.cad_map.specs.Map.{rings_at, position_of}
use Rattle.cad_map.proofs.Boundaries.FaceSums.{sum_up_to-fits, sum_up_to-next, sum_up_to-all, sum_up_to-small}
use Rattle.cad_map.proofs.sums.sum_of_rings.Goals.{After-ring_sum-sum}
use Rattle.cad_map.proofs.sums.sum_of_rings.Goals as goal

-- with the sum of one ring more it is the sum of the rings up to the next place
more : (g : _) (c : goal.After-ring_sum-sum g) → sum_over (g.F.SideMeasure.measure c.args.measure.now)
    (placed (position_of (g.M.MapView.map c.args.map.now)) (flat_map sides_of (take (c.loop-place.place + 1) (rings_at c.args.face.now (g.M.MapView.rings c.args.map.now)))))
    ≡ to_z w128 c.loop-place.sum-bits +ℤ c.ring_sum-sum.result
more g c =
    let bs = g.M.MapView.rings c.args.map.now in
    let within : c.loop-place.place < length (rings_at c.args.face.now bs) = subst (λ (n : ℕ). c.loop-place.place < n) c.ring_count-place-end.ensures.count c.loop-place-test.true in
    sum_up_to-next (g.M.MapView.map c.args.map.now) bs c.requires c.ring_count-place-end.ensures.canonical_order c.args.face.now (g.F.SideMeasure.measure c.args.measure.now) c.loop-place.place within
    ∙ (λ i. sym c.loop-place.invariant i +ℤ sym c.ring_sum-sum.ensures i)

-- both fit
ring_fits : (g : _) (c : goal.After-ring_sum-sum g) → FitsSigned w128 c.ring_sum-sum.result
ring_fits g c = omega (arith, ints)

sum_fits : (g : _) (c : goal.After-ring_sum-sum g) → FitsSigned w128 (to_z w128 c.loop-place.sum-bits +ℤ c.ring_sum-sum.result)
sum_fits g c =
    subst (FitsSigned w128) (more g c)
    (sum_up_to-fits (g.M.MapView.map c.args.map.now) (g.M.MapView.rings c.args.map.now) c.requires c.ring_count-place-end.ensures.canonical_order c.args.face.now (g.F.SideMeasure.measure c.args.measure.now)
    (g.met.F.SideMeasure.bounded c.args.measure.now) (c.loop-place.place + 1))

pub overflow_add-sum : goal.overflow_add-sum
overflow_add-sum g c =
    let at = (goal.at.overflow_add-sum g c).After-ring_sum-sum in
    let one = ring_fits g at in
    let sum = sum_fits g at in
    simp to_z-of_z sum

pub loop-place-preserved : goal.loop-place-preserved
loop-place-preserved g c =
    let at = (goal.at.loop-place-preserved g c).After-ring_sum-sum in
    let one = ring_fits g at in
    let sum = sum_fits g at in
    simp to_z-of_z (sym (more g at))

pub returns-clause-value : goal.returns-clause-value
returns-clause-value g c =
    let m = g.M.MapView.map c.args.map.now in
    let bs = g.M.MapView.rings c.args.map.now in
    let past : length (rings_at c.args.face.now bs) ≤ c.loop-place.place = subst (λ (n : ℕ). n ≤ c.loop-place.place) c.ring_count-place-end.ensures.count c.loop-place-test.false in
    c.loop-place.invariant ∙ sum_up_to-all m bs c.requires c.ring_count-place-end.ensures.canonical_order c.args.face.now (g.F.SideMeasure.measure c.args.measure.now) c.loop-place.place past

pub returns-clause-small : goal.returns-clause-small
returns-clause-small g c =
    let m = g.M.MapView.map c.args.map.now in
    let f = g.F.SideMeasure.measure c.args.measure.now in
    let small = sum_up_to-small m (g.M.MapView.rings c.args.map.now) c.requires c.ring_count-place-end.ensures.canonical_order c.args.face.now f (g.met.F.SideMeasure.bounded c.args.measure.now) c.loop-place.place in
    subst (λ (z : ℤ). unsigned_abs z ≤ 80000000000000000000000000) (sym c.loop-place.invariant) small
