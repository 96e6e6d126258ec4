use Rattle.std.proofs.Common.{◌≡◌, ◌+◌, ◌-◌, length}
use Rattle.entry_list.specs.Totals.{total_before}
use Rattle.entry_list.proofs.marks.place_past.Given as goal

abbrev pub invariant-loop-place : goal.invariant-loop-place
invariant-loop-place l =
    l.left + total_before l.place l.items ≡ total_before l.fn.from l.items + l.fn.sum

abbrev pub decreases-loop-place : goal.decreases-loop-place
decreases-loop-place l = length l.items - l.place
