use Rattle.std.proofs.Common.{◌≡◌, map}
use Rattle.cad_map.specs.Boundaries.{bounding}
use Rattle.cad_map.proofs.plain.boundaries_of.Given as goal

-- the rings so far have the face to their left
abbrev pub invariant-loop-ring : goal.invariant-loop-ring
invariant-loop-ring l = l.made.items ≡ map (bounding l.face) l.yielded
