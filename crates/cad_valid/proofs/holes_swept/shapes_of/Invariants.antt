use Rattle.std.proofs.Common.{◌≡◌, take, map}
use Rattle.cad_map.specs.Map.{position_of}
use Rattle.cad_valid.specs.Shapes.{shape_of, told_apart}
use Rattle.cad_valid.proofs.holes_swept.shapes_of.Given as goal

-- the rings so far
abbrev pub invariant-loop-boundary : goal.invariant-loop-boundary
invariant-loop-boundary l =
    l.shapes ≡ told_apart (map (shape_of (position_of l.map)) (take l.boundary-index (map (λ b. b.ring) l.fn.run)))
