use Rattle.std.proofs.Common.{◌≤◌, take}
use Rattle.std.specs.Prelude.{count_by}
use Rattle.cad_rings.specs.Cycle.{has_side}
use Rattle.cad_map.specs.Map.{face_sides}
use Rattle.cad_near.proofs.ways.is_passed_once.Given as goal

-- of the rays so far no more lead along a side of the face
abbrev pub invariant-loop-ray : goal.invariant-loop-ray
invariant-loop-ray g l =
    record {
      most : l.times ≤ l.ray-index;
      counted : count_by (λ r. has_side (l.fn.point, r.far) (face_sides (g.M.MapView.map l.map) l.fn.face)) (take l.ray-index l.rays) ≤ l.times;
    }
