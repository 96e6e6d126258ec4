use Rattle.std.proofs.Common.{◌≡◌, drop}
use Rattle.cad_rings.specs.Cycle.{has_side as has_side_of}
use Rattle.cad_map.specs.Boundaries.{sides_in}
use Rattle.cad_map.proofs.look.point_before.Given as goal

-- the side is in none of the rings so far
abbrev pub invariant-loop-boundary : goal.invariant-loop-boundary
invariant-loop-boundary l =
    has_side_of (l.fn.from, l.fn.to) (sides_in (drop l.boundary-index l.fn.boundaries))
    ≡ has_side_of (l.fn.from, l.fn.to) (sides_in l.fn.boundaries)
