use Rattle.std.proofs.Common.{◌∙◌, sym, subst}
use Rattle.cad_near.specs.Rays.{AreRaysOf}
use Rattle.cad_near.proofs.RaysOfPoint.{empty-by_rays}
use Rattle.cad_near.proofs.corners.has_empty_corners.Goals as goal

pub returns : goal.returns
returns g c =
    let m = g.M.MapView.map c.args.map.now in
    let p = c.args.point in
    let are = subst (AreRaysOf m p) (sym c.as_slice.ensures.value) c.rays_at-rays.ensures in
    let by = empty-by_rays m p c.as_slice.result.now are c.requires in (
      (λ is. by.0 (sym c.are_empty_between.ensures ∙ is)),
      (λ empty. c.are_empty_between.ensures ∙ by.1 empty),
    )
