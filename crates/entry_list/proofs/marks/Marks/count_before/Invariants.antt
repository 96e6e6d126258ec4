use Rattle.std.proofs.Common.{◌≡◌}
use Rattle.entry_list.specs.Totals.{total_before}
use Rattle.entry_list.proofs.marks.Marks.count_before.Given as goal

abbrev pub invariant-loop-j : goal.invariant-loop-j
invariant-loop-j l = l.count ≡ total_before l.j l.self-inside.totals.items
