use Rattle.std.proofs.Common.{arith}
use Rattle.entry_list.proofs.Totals.{total-more}
use Rattle.entry_list.proofs.marks.sum_between.Goals as goal

pub overflow_add-sum : goal.overflow_add-sum
overflow_add-sum c = omega (arith, c.type_inv.items c.loop-i.i)

pub loop-i-preserved : goal.loop-i-preserved
loop-i-preserved c = (
  omega (arith, total-more c.loop-i.i c.args.items.now),
  omega (arith, c.type_inv.items c.loop-i.i),
)
