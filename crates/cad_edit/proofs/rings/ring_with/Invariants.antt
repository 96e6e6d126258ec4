use Rattle.std.proofs.Common.{◌≡◌, drop, find}
use Rattle.cad_rings.specs.Cycle.{Side, has_side, sides_of}
use Rattle.cad_edit.proofs.rings.ring_with.Given as goal

-- the first ring with the side is ahead
abbrev pub invariant-loop-boundary : goal.invariant-loop-boundary
invariant-loop-boundary l =
    let side : Side = (l.fn.from, l.fn.to) in
    find (λ b. has_side side (sides_of b.ring)) l.fn.boundaries ≡ find (λ b. has_side side (sides_of b.ring)) (drop l.boundary-index l.fn.boundaries)
