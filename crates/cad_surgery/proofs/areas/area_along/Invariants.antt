use Rattle.std.proofs.Common.{◌≡◌, ◌≤◌, ◌+◌, ◌*◌, length, map, suc, ◌+ℤ◌, unsigned_abs}
use Rattle.geo_exact.specs.Measure.{measure_limit, doubled_area}
use Rattle.cad_map.specs.Map.{Map, empty_map, position_of, sum_of_ring}
use Rattle.half_table.specs.Rows.{origin_of, cycle}
use Rattle.half_paths.specs.Path.{AreIn}
use Rattle.numbered_rows.specs.Rows.{rows_in}
use Rattle.cad_surgery.proofs.AreasAlong.{area_ahead}
use Rattle.cad_surgery.proofs.areas.area_along.Given as goal

-- the sides so far and those that are ahead add up to the ring
abbrev pub invariant-loop-along : goal.invariant-loop-along
invariant-loop-along g l =
    let m : Map = record empty_map { points = rows_in l.fn.points } in
    let rows = l.fn.table.rows in
    record {
      value : l.area +ℤ area_ahead (λ h. position_of m (origin_of rows h)) l.last l.along-iterator l.first
          ≡ sum_of_ring doubled_area m (map (origin_of rows) (cycle rows l.fn.half));
      small : unsigned_abs l.area + suc (length l.along-iterator) * measure_limit ≤ 400000 * measure_limit;
      ahead : AreIn rows l.along-iterator;
    }
