use Rattle.std.proofs.Common.{◌≡◌, ◌++◌, map}
use Rattle.cad_map.specs.Boundaries.{bounding}
use Rattle.cad_map.proofs.copying.append_outline.Given as goal

-- the rings so far stand last
abbrev pub invariant-loop-ring : goal.invariant-loop-ring
invariant-loop-ring g l = l.boundaries.items ≡ l.initial.boundaries.items ++ map (bounding l.face) l.yielded
