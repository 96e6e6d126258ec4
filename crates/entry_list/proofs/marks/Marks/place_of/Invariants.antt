use Rattle.std.proofs.Common.{◌≡◌, ◌+◌, ◌-◌, length}
use Rattle.entry_list.specs.Totals.{total_before}
use Rattle.entry_list.proofs.marks.Marks.place_of.Given as goal

abbrev pub invariant-loop-left : goal.invariant-loop-left
invariant-loop-left l = l.left + total_before l.whole l.self-inside.totals.items ≡ l.fn.count

abbrev pub decreases-loop-left : goal.decreases-loop-left
decreases-loop-left l = length l.self-inside.totals.items - l.whole
