use Rattle.std.proofs.Common.{◌≡◌, ◌≤◌, ◌+◌, ◌*◌, length, ◌+ℤ◌, unsigned_abs}
use Rattle.std.specs.List.{AllByRecursion}
use Rattle.geo_exact.specs.Measure.{measure_limit, sum_over}
use Rattle.cad_rings.specs.Cycle.{placed, ring_sum}
use Rattle.cad_rings.specs.SidesLeft.{sides_left}
use Rattle.cad_rings.specs.Positions.{IsPlaced, position_in}
use Rattle.cad_rings.proofs.ring.Ring.sum.Given as goal

-- the sides so far and those that are left add up to the ring
abbrev pub invariant-loop-from : goal.invariant-loop-from
invariant-loop-from g l = record {
  value : l.total +ℤ sum_over (g.F.SideMeasure.measure l.measure) (placed (position_in l.positions) (sides_left l.from-iterator)) ≡ ring_sum (g.F.SideMeasure.measure l.measure) (position_in l.positions) l.self;
  small : unsigned_abs l.total + length (sides_left l.from-iterator) * measure_limit ≤ length l.self * measure_limit;
  ends : AllByRecursion (λ s. IsPlaced l.positions s.0 × IsPlaced l.positions s.1) (sides_left l.from-iterator);
}
