use Rattle.std.proofs.Common.{◌≡◌, ◌+◌, drop}
use Rattle.std.specs.List.{position_or_len}
use Rattle.cad_rings.specs.Cycle.{sides_of, is_side}
use Rattle.cad_rings.proofs.corners.place_of.Given as goal

-- the side is none of those so far
abbrev pub invariant-loop-place : goal.invariant-loop-place
invariant-loop-place l =
    position_or_len (is_side (l.fn.from, l.fn.to)) (sides_of l.fn.points) ≡ l.place + position_or_len (is_side (l.fn.from, l.fn.to)) (drop l.place (sides_of l.fn.points))
