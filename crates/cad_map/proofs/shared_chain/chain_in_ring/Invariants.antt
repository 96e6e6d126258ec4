use Rattle.std.proofs.Common.{◌≡◌, false}
use Rattle.std.specs.List.{list_any}
use Rattle.cad_map.specs.Steps.{is_before_chain}
use Rattle.cad_map.proofs.shared_chain.chain_in_ring.Given as goal

-- after none of the sides so far a chain begins
abbrev pub invariant-loop-a : goal.invariant-loop-a
invariant-loop-a g l = list_any (is_before_chain (g.M.MapView.map l.map) l.other l.count) l.yielded ≡ false
