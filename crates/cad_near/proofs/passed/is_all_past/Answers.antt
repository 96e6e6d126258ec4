use Rattle.std.proofs.Common.{refl, subst, rules, tests}
use Rattle.std.proofs.lemmas.Iterator.{cases_from_all}
use Rattle.std.proofs.lemmas.Iterator.Consumers.{YieldsList-from_first}
use Rattle.std.specs.Prelude.{IsTrue}
use Rattle.std.specs.List.{list_all}
use Rattle.cell_grid.specs.declared.entry.HeldPoint.{HeldPoint}
use Rattle.cad_map.specs.Touched.{Moved}
use Rattle.cad_near.specs.Seen.{IsInReach}
use Rattle.cad_near.specs.Triangles.{is_past_ray, is_past_rays}
use Rattle.cad_near.proofs.Candidates.{passed-around}
use Rattle.cad_near.proofs.TrianglesSeen.{far-past}
use Rattle.cad_near.proofs.passed.is_all_past.Goals as goal

pub returns-then-is_small : goal.returns-then-is_small
returns-then-is_small c = λ t n q held other.
    let at = c.args.at in
    let v = c.args.moved.now in
    let rays = c.args.rays.now in
    let reach = c.reach_round-reach.result in
    let around = c.reach_round-reach.ensures in
    let P = λ (h : HeldPoint). IsTrue (is_past_rays v at rays h) in
    let passed =
    cases_from_all _ _ _ P (λ h. ¬ P h) c.all.ensures.ran (YieldsList-from_first (λ x. x) (λ w. w) c.point_candidates.result refl)
    (λ x q k. search (rules, tests)) (λ x q k. search (rules, tests)) in
    passed-around v.point (λ h. list_all (is_past_ray v.from at h) rays) c.point_candidates.result _ passed t reach n q (c.point_candidates.ensures.all n q held) other
    (far-past reach at v.from around.at (subst (λ (w : Moved). IsInReach reach w.from) c.moved.view_is around.from) rays around.rays n q)
