use Rattle.std.proofs.Common.{◌≤◌, ◌+◌, ◌∙◌, sym, subst, ℤ, ◌+ℤ◌, to_z, to_z-of_z, FitsSigned, unsigned_abs, arith}
use Rattle.std.specs.Int.{w128}
use Rattle.std.proofs.lemmas.Int.{ints}
use Rattle.cad_views.proofs.AreaFacts.{ring-few, area-next, area-fits, area-all, area-small}
use Rattle.cad_views.proofs.areas.face_area.Goals as goal

pub sum_round-sum-requires : goal.sum_round-sum-requires
sum_round-sum-requires c = ring-few c.args.map.now c.requires c.args.face c.run_of-rings.result.now c.run_of-rings.ensures c.loop-place.place c.index-rings-place.result c.loop-place-test.true

pub overflow_add-sum : goal.overflow_add-sum
overflow_add-sum c =
    let m = c.args.map.now in
    let more = area-next m c.requires c.args.face c.run_of-rings.result.now c.run_of-rings.ensures c.loop-place.place c.index-rings-place.result c.loop-place-test.true
    ∙ (λ i. sym c.loop-place.invariant i +ℤ sym c.sum_round-sum.ensures i) in
    let one : FitsSigned w128 c.sum_round-sum.result = omega (arith, ints) in
    let sum : FitsSigned w128 (to_z w128 c.loop-place.sum-bits +ℤ c.sum_round-sum.result) = subst (FitsSigned w128) more (area-fits m c.requires c.args.face (c.loop-place.place + 1)) in
    simp to_z-of_z sum

pub loop-place-preserved : goal.loop-place-preserved
loop-place-preserved c =
    let m = c.args.map.now in
    let more = area-next m c.requires c.args.face c.run_of-rings.result.now c.run_of-rings.ensures c.loop-place.place c.index-rings-place.result c.loop-place-test.true
    ∙ (λ i. sym c.loop-place.invariant i +ℤ sym c.sum_round-sum.ensures i) in
    let one : FitsSigned w128 c.sum_round-sum.result = omega (arith, ints) in
    let sum : FitsSigned w128 (to_z w128 c.loop-place.sum-bits +ℤ c.sum_round-sum.result) = subst (FitsSigned w128) more (area-fits m c.requires c.args.face (c.loop-place.place + 1)) in
    simp to_z-of_z (sym more)

pub returns-clause-value : goal.returns-clause-value
returns-clause-value c = c.loop-place.invariant ∙ area-all c.args.map.now c.requires c.args.face c.run_of-rings.result.now c.run_of-rings.ensures c.loop-place.place c.loop-place-test.false

pub returns-clause-small : goal.returns-clause-small
returns-clause-small c = let small = area-small c.args.map.now c.requires c.args.face c.loop-place.place in subst (λ (z : ℤ). unsigned_abs z ≤ 100000000000000000000000000) (sym c.loop-place.invariant) small
