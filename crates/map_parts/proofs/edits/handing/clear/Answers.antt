use Rattle.std.proofs.Common.{length, refl, ap, ◌∙◌, arith}
use Rattle.key_lists.specs.Held.{items_at}
use Rattle.map_parts.proofs.Handed.{nothing-left, one-fewer}
use Rattle.map_parts.proofs.edits.handing.clear.Goals as goal

pub loop-gone-init : goal.loop-gone-init
loop-gone-init c = record { left = omega arith; others = λ n away. refl; capacity = refl }

pub take-requires : goal.take-requires
take-requires c =
    let left = c.loop-gone.invariant.left in
    let total = ap length c.at-count.ensures in
    omega (arith, left, total, c.loop-gone-test.true)

pub loop-gone-preserved : goal.loop-gone-preserved
loop-gone-preserved c =
    let left = c.loop-gone.invariant.left in
    let fewer = one-fewer (items_at c.loop-gone.kept c.args.key) _ c.take.result _ c.take.ensures.item c.take.ensures.items in
    record {
      left = omega (arith, left, fewer);
      others = λ n away. c.take.ensures.others n away ∙ c.loop-gone.invariant.others n away;
      capacity = c.take.ensures.capacity ∙ c.loop-gone.invariant.capacity;
    }

pub returns-clause-none : goal.returns-clause-none
returns-clause-none c =
    let left = c.loop-gone.invariant.left in
    let total = ap length c.at-count.ensures in
    nothing-left (items_at c.loop-gone.kept c.args.key) (omega (arith, left, total, c.loop-gone-test.false))

pub returns-clause-others : goal.returns-clause-others
returns-clause-others c = c.loop-gone.invariant.others

pub returns-clause-capacity : goal.returns-clause-capacity
returns-clause-capacity c = c.loop-gone.invariant.capacity
