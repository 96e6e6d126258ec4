use Rattle.std.proofs.Common.{◌≡◌, drop, find, option_map}
use Rattle.cad_rings.specs.Cycle.{is_side, corners_along, turned, after_side as after_side_of}
use Rattle.cad_rings.proofs.corners.after_side.Given as goal

abbrev pub invariant-loop-place : goal.invariant-loop-place
invariant-loop-place l =
    after_side_of (l.fn.from, l.fn.to) l.fn.points
    ≡ option_map (λ c. c.after) (find (λ c. is_side (l.fn.from, l.fn.to) (c.before, c.at)) (corners_along l.before l.at (drop l.place (turned 2 l.fn.points))))
