use Rattle.std.proofs.Common.{◌≡◌, length, filter}
use Rattle.cad_map.specs.Steps.{has_twin_in}
use Rattle.cad_map.proofs.shared_chain.shared_in_ring.Given as goal

-- those of the sides so far
abbrev pub invariant-loop-a : goal.invariant-loop-a
invariant-loop-a g l = l.count ≡ length (filter (has_twin_in (g.M.MapView.map l.map) l.other) l.yielded)
