use Rattle.std.proofs.Common.{◌≡◌, drop}
use Rattle.cad_map.specs.Map.{point_after as point_after_in}
use Rattle.cad_map.proofs.look.point_after.Given as goal

abbrev pub invariant-loop-boundary : goal.invariant-loop-boundary
invariant-loop-boundary l = point_after_in (l.fn.from, l.fn.to) l.fn.boundaries ≡ point_after_in (l.fn.from, l.fn.to) (drop l.boundary-index l.fn.boundaries)
