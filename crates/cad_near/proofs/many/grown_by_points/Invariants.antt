use Rattle.std.proofs.Common.{take}
use Rattle.std.specs.List.{AllByRecursion}
use Rattle.geo_exact.specs.Position.{Position}
use Rattle.cad_near.specs.Near.{OfPoint}
use Rattle.cad_near.specs.Seen.{IsInReach, HasInReach, lying_point}
use Rattle.cad_near.proofs.many.grown_by_points.Given as goal

-- those so far lie in the box, and so does all that lay in the first
abbrev pub invariant-loop-place : goal.invariant-loop-place
invariant-loop-place g l =
    let m = g.M.MapView.map l.map in
    record {
      all : AllByRecursion (OfPoint m (λ s. HasInReach l.so_far (lying_point s))) (take l.place l.points);
      kept : (q : Position) → IsInReach l.fn.reach q → IsInReach l.so_far q;
    }
