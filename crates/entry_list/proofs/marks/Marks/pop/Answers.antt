use Rattle.std.proofs.Common.{length, arith, ap}
use Rattle.entry_list.proofs.Totals.{mark-le-sum, mark-le-total, pop_tallied}
use Rattle.entry_list.proofs.marks.Marks.pop.Goals as goal

pub overflow_sub-sum : goal.overflow_sub-sum
overflow_sub-sum c =
    mark-le-sum c.self.invariant (omega (arith, ap length c.self.view_is)) c.index-mark.ensures
    c.index.ensures

pub overflow_sub-total : goal.overflow_sub-total
overflow_sub-total c =
    omega (
      arith,
      mark-le-total c.self.invariant (omega (arith, ap length c.self.view_is))
          c.index-mark.ensures c.index-2.ensures,
    )

pub invariant_of-self : goal.invariant_of-self
invariant_of-self c =
    let v = ap length c.self.view_is in
    pop_tallied c.self.invariant (omega arith) (omega (arith, v)) c.pop.ensures.rest (omega arith)
    c.index-mark.ensures c.index.ensures c.index-2.ensures c.from.ensures
