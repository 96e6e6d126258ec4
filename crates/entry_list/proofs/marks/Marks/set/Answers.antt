use Rattle.std.proofs.Common.{length, arith, ap}
use Rattle.entry_list.proofs.Totals.{room-of, sum-read-small, total-read-small, mark-le-sum, mark-le-total, set_tallied}
use Rattle.entry_list.proofs.marks.Marks.set.Goals as goal

pub overflow_sub-sum : goal.overflow_sub-sum
overflow_sub-sum c =
    mark-le-sum c.self.invariant (omega (arith, ap length c.self.view_is)) c.index-old.ensures
    c.index.ensures

pub overflow_add-sum : goal.overflow_add-sum
overflow_add-sum c =
    omega (
      arith,
      sum-read-small c.args.place c.self.invariant
          (room-of c.self.invariant (omega (arith, ap length c.self.view_is))) c.index.ensures,
    )

pub overflow_sub-total : goal.overflow_sub-total
overflow_sub-total c =
    omega (
      arith,
      mark-le-total c.self.invariant (omega (arith, ap length c.self.view_is))
          c.index-old.ensures c.index-2.ensures,
    )

pub overflow_add-total : goal.overflow_add-total
overflow_add-total c =
    omega (
      arith,
      total-read-small c.args.place c.self.invariant
          (room-of c.self.invariant (omega (arith, ap length c.self.view_is))) c.index-2.ensures,
    )

pub invariant_of-self : goal.invariant_of-self
invariant_of-self c =
    set_tallied c.self.invariant (omega (arith, ap length c.self.view_is)) c.index-old.ensures
    c.index.ensures c.index-2.ensures c.from.ensures c.from-2.ensures c.requires.mark
