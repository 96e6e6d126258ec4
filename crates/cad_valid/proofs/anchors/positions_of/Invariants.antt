use Rattle.std.proofs.Common.{◌≡◌, map, take}
use Rattle.cad_valid.specs.Shapes.{Shape}
use Rattle.cad_valid.proofs.anchors.positions_of.Given as goal

-- where the anchors of the holes before this one are
abbrev pub invariant-loop-hole : goal.invariant-loop-hole
invariant-loop-hole l = l.positions.items ≡ map (λ (hole : Shape). hole.anchor) (take l.hole-index l.fn.holes)
