use Rattle.std.proofs.Common.{◌==◌, refl, subst, inl, rules, tests}
use Rattle.std.proofs.lemmas.Bool.{or_right}
use Rattle.std.proofs.lemmas.Iterator.{cases_from_all}
use Rattle.std.proofs.lemmas.Iterator.Consumers.{YieldsList-from_first}
use Rattle.cell_grid.specs.declared.entry.HeldPoint.{HeldPoint}
use Rattle.cad_map.specs.Touched.{Moved}
use Rattle.cad_near.specs.Seen.{IsInReach}
use Rattle.cad_near.specs.Moves.{IsPast}
use Rattle.cad_near.proofs.MovedSides.{far-alike}
use Rattle.cad_near.proofs.Candidates.{by_box, passed-where_true}
use Rattle.cad_near.proofs.moves.go_past.Goals as goal

pub returns-then-is_small : goal.returns-then-is_small
returns-then-is_small g c = λ t n q held other.
    let m = g.M.MapView.map c.args.map.now in
    let at = c.args.at in
    let v = c.args.moved.now in
    let rays = c.args.rays.now in
    let reach = c.reach_round-reach.result in
    let around = c.reach_round-reach.ensures in
    let from_in = subst (λ (w : Moved). IsInReach reach w.from) c.moved.view_is around.from in
    let P = λ (h : HeldPoint). IsPast m c.args.face.now v at rays h in
    let passed =
    cases_from_all _ _ _ P (λ h. Unit {0}) c.all.ensures.ran (YieldsList-from_first (λ x. x) (λ w. w) c.point_candidates.result refl)
    (λ x q k. search (rules, tests)) (λ x q k. tt) in
    let each = passed-where_true P (λ h. Unit {0}) c.point_candidates.result _ passed t in
    by_box reach q
    (λ over. each (record { point = n; position = q }) (c.point_candidates.ensures.all n q held over))
    (λ apart. inl (or_right (n == v.point) _ (far-alike reach at v.from around.at from_in rays around.rays q apart)))
