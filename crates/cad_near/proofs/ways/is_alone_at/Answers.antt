use Rattle.std.proofs.Common.{◌≤◌, List, subst}
use Rattle.std.specs.Prelude.{count_by}
use Rattle.cad_rings.specs.Cycle.{has_side}
use Rattle.cad_map.specs.Map.{face_sides}
use Rattle.cad_near.specs.declared.rays.Ray.{Ray}
use Rattle.cad_near.proofs.ClearPoints.{alone}
use Rattle.cad_near.proofs.ways.is_alone_at.Goals as goal

pub returns : goal.returns
returns g c = λ t.
    let m = g.M.MapView.map c.args.map.now in
    alone m c.requires c.args.point c.args.face.now c.rays_at-rays.result.items c.rays_at-rays.ensures
    (subst (λ (rays : List Ray). count_by (λ r. has_side (c.args.point, r.far) (face_sides m c.args.face.now)) rays ≤ 1) c.as_slice.ensures.value (c.is_passed_once.ensures t))
