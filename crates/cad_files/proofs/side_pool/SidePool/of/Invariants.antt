use Rattle.std.proofs.Common.{◌≡◌, false, replicate}
use Rattle.cad_files.proofs.side_pool.SidePool.of.Given as goal

abbrev pub invariant-loop : goal.invariant-loop
invariant-loop l = l.is_taken.items ≡ replicate l.counter false
