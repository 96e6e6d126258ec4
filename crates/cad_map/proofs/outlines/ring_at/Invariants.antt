use Rattle.std.proofs.Common.{◌≡◌, map}
use Rattle.cad_map.proofs.outlines.ring_at.Given as goal

-- the first points of the sides so far
abbrev pub invariant-loop-point : goal.invariant-loop-point
invariant-loop-point g l = l.points.items ≡ map (λ s. s.0) l.yielded
