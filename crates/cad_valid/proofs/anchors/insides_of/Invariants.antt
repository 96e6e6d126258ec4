use Rattle.std.proofs.Common.{take}
use Rattle.cad_valid.proofs.AnchorFacts.{AreCounted}
use Rattle.cad_valid.proofs.anchors.insides_of.Given as goal

-- the sides before this one are counted
abbrev pub invariant-loop-a : goal.invariant-loop-a
invariant-loop-a l = AreCounted l.fn.positions (take l.a-index l.fn.sides) l.anchors
