use Rattle.std.proofs.Common.{◌≡◌, ◌≤◌, false, subst, ap, ◌∙◌}
use Rattle.std.specs.Prelude.{count_by}
use Rattle.geo_exact.specs.Position.{Position}
use Rattle.geo_exact.specs.SignTest.{boxes_overlap}
use Rattle.cad_rings.specs.Cycle.{has_side}
use Rattle.cad_map.specs.Map.{face_sides, is_end, position_of}
use Rattle.cad_map.specs.Touched.{Moved}
use Rattle.cad_near.specs.declared.rays.Ray.{Ray}
use Rattle.cad_near.proofs.ClearPoints.{alone}
use Rattle.cad_near.proofs.ways.goes_clear.Goals as goal

pub returns : goal.returns
returns g c = λ t.
    let m = g.M.MapView.map c.args.map.now in
    let v = c.args.moved.now in
    let f = c.args.face.now in
    let is = c.moved.view_is in
    record {
      left = λ p h other. c.has_left.ensures c.if-not-has_left.false p.number p.position (c.requires.held.points p h) other;
      way = λ s h off.
          subst (λ (z : Position). boxes_overlap v.from z (position_of m s.from) (position_of m s.to) ≡ false) c.requires.at
          (subst (λ (w : Moved). boxes_overlap w.from c.args.at (position_of m s.from) (position_of m s.to) ≡ false) is
          (c.is_way_clear.ensures t s h (ap (λ (w : Moved). is_end s w.point) is ∙ off)));
      alone = alone m c.requires.whole v.point f c.args.rays.now c.requires.rays
          (subst (λ (w : Moved). count_by (λ (r : Ray). has_side (w.point, r.far) (face_sides m f)) c.args.rays.now ≤ 1) is (c.is_passed_once.ensures c.if-not-is_passed_once.false));
    }
