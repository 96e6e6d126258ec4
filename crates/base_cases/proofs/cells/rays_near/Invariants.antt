use Rattle.std.proofs.Common.{◌≤◌}
use Rattle.base_cases.proofs.cells.rays_near.Given as goal

abbrev pub invariant-loop-number : goal.invariant-loop-number
invariant-loop-number g l = l.count ≤ l.number
