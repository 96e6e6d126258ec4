use Rattle.std.proofs.Common.{◌≡◌, ◌≤◌, length, map, min, fold}
use Rattle.geo_exact.specs.Measure.{doubled_area, sum_over}
use Rattle.cad_rings.specs.Cycle.{Side, placed}
use Rattle.cad_map.specs.Map.{position_of}
use Rattle.cad_near.specs.Moves.{position_before}
use Rattle.cad_near.proofs.rounds.round_along.Given as goal

-- the doubled areas of the sides so far, where they lie and where they lay, and the least of their first points
abbrev pub invariant-loop-at : goal.invariant-loop-at
invariant-loop-at g l =
    let position = position_of (g.M.MapView.map l.map) in
    record {
      area : l.area ≡ sum_over doubled_area (placed position l.yielded);
      area_before : l.area_before ≡ sum_over doubled_area (placed (position_before position l.moved) l.yielded);
      least : l.least ≡ fold min l.fn.from (map (λ (s : Side). s.0) l.yielded);
      few : length l.yielded ≤ 400000;
    }
