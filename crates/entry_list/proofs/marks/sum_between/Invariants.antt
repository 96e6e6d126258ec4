use Rattle.std.proofs.Common.{◌≡◌, ◌+◌, ◌-◌, ◌*◌, ◌≤◌}
use Rattle.entry_list.specs.Totals.{total_before}
use Rattle.entry_list.proofs.marks.sum_between.Given as goal

abbrev pub invariant-loop-i : goal.invariant-loop-i
invariant-loop-i l =
    (total_before l.fn.from l.items + l.sum ≡ total_before l.i l.items)
    × (l.sum ≤ (l.i - l.fn.from) * 255)
