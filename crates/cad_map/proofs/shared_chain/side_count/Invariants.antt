use Rattle.std.proofs.Common.{◌≡◌, length}
use Rattle.cad_map.proofs.shared_chain.side_count.Given as goal

-- the sides so far
abbrev pub invariant-loop : goal.invariant-loop
invariant-loop g l = l.count ≡ length l.yielded
