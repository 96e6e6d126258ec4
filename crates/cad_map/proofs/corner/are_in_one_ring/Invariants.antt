use Rattle.std.proofs.Common.{◌≡◌, false}
use Rattle.cad_rings.specs.Cycle.{has_side}
use Rattle.cad_map.specs.Chain.{leaving}
use Rattle.cad_map.proofs.corner.are_in_one_ring.Given as goal

-- the side isn't met so far
abbrev pub invariant-loop-from : goal.invariant-loop-from
invariant-loop-from g l = has_side (leaving l.last) l.yielded ≡ false
