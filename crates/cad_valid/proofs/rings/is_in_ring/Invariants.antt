use Rattle.std.proofs.Common.{◌≡◌}
use Rattle.geo_exact.specs.Inside.{is_inside}
use Rattle.cad_rings.specs.Cycle.{placed}
use Rattle.cad_map.specs.Map.{position_of}
use Rattle.cad_valid.proofs.rings.is_in_ring.Given as goal

-- whether an odd number of the sides so far is counted
abbrev pub invariant-loop-a : goal.invariant-loop-a
invariant-loop-a g l = l.inside ≡ is_inside (placed (position_of (g.M.MapView.map l.map)) l.yielded) l.at
