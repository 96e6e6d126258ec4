use Rattle.std.proofs.Common.{◌≡◌, drop}
use Rattle.cad_rings.specs.Cycle.{sides_of, has_side as has_side_of}
use Rattle.cad_rings.proofs.corners.has_side.Given as goal

abbrev pub invariant-loop-place : goal.invariant-loop-place
invariant-loop-place l = has_side_of (l.fn.from, l.fn.to) (sides_of l.fn.points) ≡ has_side_of (l.fn.from, l.fn.to) (drop l.place (sides_of l.fn.points))
