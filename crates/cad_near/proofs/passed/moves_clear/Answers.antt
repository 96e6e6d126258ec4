use Rattle.std.proofs.Common.{◌≡◌, false, List, subst, ap, ◌∙◌}
use Rattle.geo_exact.specs.Position.{Position}
use Rattle.geo_exact.specs.SignTest.{boxes_overlap}
use Rattle.cad_map.specs.Map.{degree, is_end, position_of}
use Rattle.cad_map.specs.Touched.{Moved}
use Rattle.cad_near.specs.declared.rays.Ray.{Ray}
use Rattle.cad_near.specs.Rays.{AreRaysOf}
use Rattle.cad_near.specs.Triangles.{AreSeenClear}
use Rattle.cad_near.proofs.TrianglesSeen.{moves-clear}
use Rattle.cad_near.proofs.passed.moves_clear.Goals as goal

pub returns-then-are_seen_clear : goal.returns-then-are_seen_clear
returns-then-are_seen_clear g c = λ t.
    let m = g.M.MapView.map c.args.map.now in
    let grid = c.args.grid.now in
    let v = c.args.moved.now in
    let rays = c.rays_at-rays.result.items in
    let at = c.position-at.result in
    let same = c.moved.view_is in
    let are = subst (λ (w : Moved). AreRaysOf m w.point rays) same c.rays_at-rays.ensures in
    let lies = c.position-at.ensures ∙ ap (λ (w : Moved). position_of m w.point) same in
    let seen = subst (λ (rs : List Ray). AreSeenClear grid v at rs) c.as_slice.ensures.value (c.are_seen_clear.ensures c.if-are_seen_clear.true) in
    moves-clear m grid c.requires.held v rays are (subst (λ (z : Position). AreSeenClear grid v z rays) lies seen)
    (λ none. c.if-degree-eq0.false (c.degree-degree.ensures ∙ ap (λ (w : Moved). degree m w.point) same ∙ none))
    (λ s h off.
    subst (λ (z : Position). boxes_overlap v.from z (position_of m s.from) (position_of m s.to) ≡ false) lies
    (subst (λ (w : Moved). boxes_overlap w.from at (position_of m s.from) (position_of m s.to) ≡ false) same
    (c.is_way_clear.ensures t s h (ap (λ (w : Moved). is_end s w.point) same ∙ off))))
