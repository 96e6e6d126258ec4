use Rattle.entry_list.proofs.Totals.{empty_tallied}
use Rattle.entry_list.proofs.marks.Marks.new.Goals as goal

pub invariant_of-result : goal.invariant_of-result
invariant_of-result c =
    rw (c.new.ensures.items, c.new-2.ensures.items, c.new-3.ensures.items) empty_tallied
