use Rattle.std.proofs.Common.{◌≡◌, take}
use Rattle.std.specs.Prelude.{flat_map}
use Rattle.geo_exact.specs.Measure.{sum_over}
use Rattle.cad_rings.specs.Cycle.{placed, sides_of}
use Rattle.cad_map.specs.Map.{position_of, rings_at}
use Rattle.cad_map.proofs.sums.sum_of_rings.Given as goal

-- the measures of the sides of the rings so far, added up
abbrev pub invariant-loop-place : goal.invariant-loop-place
invariant-loop-place g l =
    let rings = rings_at l.face (g.M.MapView.rings l.map) in
    l.sum ≡ sum_over (g.F.SideMeasure.measure l.measure) (placed (position_of (g.M.MapView.map l.map)) (flat_map sides_of (take l.place rings)))
