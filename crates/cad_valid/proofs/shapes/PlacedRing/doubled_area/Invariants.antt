use Rattle.std.proofs.Common.{◌≡◌, ◌≤◌, ◌*◌, take}
use Rattle.std.specs.Prelude.{unsigned_abs}
use Rattle.geo_exact.specs.Measure.{measure_limit, doubled_area, sum_over}
use Rattle.cad_valid.proofs.shapes.PlacedRing.doubled_area.Given as goal

-- the sides so far, added up
abbrev pub invariant-loop-from : goal.invariant-loop-from
invariant-loop-from l =
    record {
      value : l.sum ≡ sum_over doubled_area (take l.from-index l.from-items);
      small : unsigned_abs l.sum ≤ l.from-index * measure_limit;
    }
