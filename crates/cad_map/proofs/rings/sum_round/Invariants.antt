use Rattle.std.proofs.Common.{◌≡◌, ◌≤◌, ◌+◌, ◌*◌, length, ◌+ℤ◌, unsigned_abs}
use Rattle.geo_exact.specs.Measure.{measure_limit, sum_over}
use Rattle.cad_rings.specs.Cycle.{placed}
use Rattle.cad_rings.specs.SidesLeft.{sides_left}
use Rattle.cad_map.specs.Map.{position_of, sum_of_ring}
use Rattle.cad_map.proofs.rings.sum_round.Given as goal

-- the sides so far and those that are left add up to the ring
abbrev pub invariant-loop-from : goal.invariant-loop-from
invariant-loop-from g l =
    let f = g.F.SideMeasure.measure l.measure in
    let m = g.M.MapView.map l.map in
    record {
      value : l.sum +ℤ sum_over f (placed (position_of m) (sides_left l.from-iterator)) ≡ sum_of_ring f m l.ring;
      small : unsigned_abs l.sum + length (sides_left l.from-iterator) * measure_limit ≤ length l.ring * measure_limit;
    }
