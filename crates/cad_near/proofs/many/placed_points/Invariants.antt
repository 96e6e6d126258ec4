use Rattle.std.proofs.Common.{take}
use Rattle.std.specs.List.{AllByRecursion, Contains}
use Rattle.cad_near.specs.Near.{OfPoint}
use Rattle.cad_valid.specs.Placed.{placed_point}
use Rattle.cad_near.proofs.many.placed_points.Given as goal

-- the points so far
abbrev pub invariant-loop-place : goal.invariant-loop-place
invariant-loop-place g l =
    AllByRecursion (OfPoint (g.M.MapView.map l.map) (λ p. Contains l.items.items (placed_point p))) (take l.place l.numbers)
