use Rattle.std.proofs.Common.{take}
use Rattle.std.specs.List.{AllByRecursion}
use Rattle.cad_near.specs.Moves.{TurnAlong}
use Rattle.cad_near.proofs.moves.turn_as_before.Given as goal

-- the rings along the rays so far turn as before
abbrev pub invariant-loop-ray : goal.invariant-loop-ray
invariant-loop-ray g l =
    AllByRecursion (λ r. TurnAlong (g.M.MapView.map l.map) l.fn.face l.fn.moved l.fn.clear r.far) (take l.ray-index l.rays)
