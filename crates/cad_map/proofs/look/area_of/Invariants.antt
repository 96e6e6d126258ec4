use Rattle.std.proofs.Common.{◌≡◌, ◌≤◌, ◌+◌, ◌*◌, length, ◌+ℤ◌, unsigned_abs}
use Rattle.geo_exact.specs.Measure.{measure_limit, doubled_area, sum_over}
use Rattle.cad_rings.specs.Cycle.{placed}
use Rattle.cad_rings.specs.SidesLeft.{sides_left}
use Rattle.numbered_rows.specs.Rows.{rows_in}
use Rattle.cad_map.specs.Map.{empty_map, position_of, sum_of_ring}
use Rattle.cad_map.proofs.look.area_of.Given as goal

-- the sides so far and those that are left add up to the ring
abbrev pub invariant-loop-from : goal.invariant-loop-from
invariant-loop-from l =
    let m = record empty_map { points = rows_in l.points } in
    record {
      value : l.area +ℤ sum_over doubled_area (placed (position_of m) (sides_left l.from-iterator)) ≡ sum_of_ring doubled_area m l.ring;
      small : unsigned_abs l.area + length (sides_left l.from-iterator) * measure_limit ≤ length l.ring * measure_limit;
    }
