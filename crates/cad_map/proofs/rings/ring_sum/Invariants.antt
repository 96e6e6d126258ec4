use Rattle.std.proofs.Common.{◌≡◌}
use Rattle.geo_exact.specs.Measure.{sum_over}
use Rattle.cad_rings.specs.Cycle.{placed}
use Rattle.cad_map.specs.Map.{position_of}
use Rattle.cad_map.proofs.rings.ring_sum.Given as goal

-- the measures of the sides so far, added up, and where the last point lies
abbrev pub invariant-loop-a : goal.invariant-loop-a
invariant-loop-a g l = record {
  sum : l.sum ≡ sum_over (g.F.SideMeasure.measure l.measure) (placed (position_of (g.M.MapView.map l.map)) l.yielded);
  lies : l.lies ≡ position_of (g.M.MapView.map l.map) l.last;
}
