use Rattle.std.proofs.Common.{◌≡◌, drop, find}
use Rattle.cad_rings.specs.Cycle.{has_side as has_side_of, sides_of}
use Rattle.cad_map.proofs.look.face_with.Given as goal

abbrev pub invariant-loop-boundary : goal.invariant-loop-boundary
invariant-loop-boundary l =
    find (λ b. has_side_of (l.fn.from, l.fn.to) (sides_of b.ring)) l.fn.boundaries
    ≡ find (λ b. has_side_of (l.fn.from, l.fn.to) (sides_of b.ring)) (drop l.boundary-index l.fn.boundaries)
