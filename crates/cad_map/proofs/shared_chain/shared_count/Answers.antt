use Rattle.std.proofs.Common.{◌+◌, ◌<◌, ◌≤◌, subst, ◌∙◌, ℕ, length, arith}
use Rattle.cad_map.specs.Map.{rings_at}
use Rattle.cad_map.specs.Steps.{has_twin_in}
use Rattle.cad_map.proofs.Boundaries.RingsOfMap.{whole_valid}
use Rattle.cad_map.proofs.Boundaries.SideCounts.{count_up_to-few, count_up_to-next, count_up_to-all}
use Rattle.cad_map.proofs.shared_chain.shared_count.Goals as goal

pub loop-place-preserved : goal.loop-place-preserved
loop-place-preserved g c =
    let m = g.M.MapView.map c.args.map.now in
    let bs = g.M.MapView.rings c.args.map.now in
    let within : c.loop-place.place < length (rings_at c.args.kept.now bs) = subst (λ (n : ℕ). c.loop-place.place < n) c.ring_count-place-end.ensures.count c.loop-place-test.true in
    let next = count_up_to-next m bs (whole_valid m c.requires) c.ring_count-place-end.ensures.canonical_order c.args.kept.now (has_twin_in m c.args.ended.now) c.loop-place.place within in
    let here = c.shared_in_ring-count.ensures in
    let so_far = c.loop-place.invariant in
    omega (arith, next, here, so_far)

pub overflow_add-count : goal.overflow_add-count
overflow_add-count g c =
    let m = g.M.MapView.map c.args.map.now in
    let bs = g.M.MapView.rings c.args.map.now in
    let few = count_up_to-few m bs (whole_valid m c.requires) c.ring_count-place-end.ensures.canonical_order c.args.kept.now (has_twin_in m c.args.ended.now) (c.loop-place.place + 1) in
    let now = loop-place-preserved g c in
    omega (arith, few, now)

pub returns : goal.returns
returns g c =
    let m = g.M.MapView.map c.args.map.now in
    let bs = g.M.MapView.rings c.args.map.now in
    let past : length (rings_at c.args.kept.now bs) ≤ c.loop-place.place = subst (λ (n : ℕ). n ≤ c.loop-place.place) c.ring_count-place-end.ensures.count c.loop-place-test.false in
    c.loop-place.invariant ∙ count_up_to-all m bs (whole_valid m c.requires) c.ring_count-place-end.ensures.canonical_order c.args.kept.now (has_twin_in m c.args.ended.now) c.loop-place.place past
