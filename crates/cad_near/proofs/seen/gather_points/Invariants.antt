use Rattle.std.proofs.Common.{◌≤◌, length, take}
use Rattle.std.specs.List.{AllByRecursion, Contains}
use Rattle.cad_near.specs.Near.{OfPoint}
use Rattle.cad_near.specs.Seen.{lying_point}
use Rattle.cad_near.proofs.seen.gather_points.Given as goal

-- the points so far that the map has were gathered
abbrev pub invariant-loop-place : goal.invariant-loop-place
invariant-loop-place g l =
    let m = g.M.MapView.map l.map in
    record {
      all : AllByRecursion (OfPoint m (λ p. Contains l.seen.items (lying_point p))) (take l.place l.points);
      few : length l.seen.items ≤ l.place;
    }
