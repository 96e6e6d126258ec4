use Rattle.std.proofs.Common.{rules, tests, refl}
use Rattle.std.proofs.lemmas.Iterator.{cases_from_all}
use Rattle.std.proofs.lemmas.Iterator.Consumers.{YieldsList-from_first}
use Rattle.cad_near.specs.Seen.{OfHeldPoint, held_point, is_lone_point, lying_point}
use Rattle.cad_near.proofs.Candidates.{HavePassed}
use Rattle.cad_near.proofs.SightOfMap.{rows-seen}
use Rattle.cad_near.proofs.sight.sees_points_clear.Goals as goal
use Rattle.cad_near.proofs.sight.sees_points_clear.Goals.{After-all}

-- all candidates passed, or one didn't
passed : (g : _) (c : After-all g) → HavePassed (OfHeldPoint (g.M.MapView.map c.args.map.now) (is_lone_point c.args.seen.now)) c.point_candidates.result c.all.result
passed g c =
    let P = OfHeldPoint (g.M.MapView.map c.args.map.now) (is_lone_point c.args.seen.now) in
    cases_from_all _ _ _ P (λ h. ¬ P h) c.all.ensures.ran (YieldsList-from_first (λ x. x) (λ w. w) c.point_candidates.result refl) (λ x q k. search (rules, tests)) (λ x q k. search (rules, tests))

pub returns : goal.returns
unfolding OfHeldPoint
returns g c =
    let m = g.M.MapView.map c.args.map.now in
    rows-seen lying_point m.points held_point c.args.seen.now.reach (is_lone_point c.args.seen.now) c.point_candidates.result _ (passed g (goal.at.returns g c).After-all)
    (λ h there. (c.point_candidates.ensures.held h there).1)
    (λ p h near. (record { point = p.number; position = p.position }, c.point_candidates.ensures.all p.number p.position (c.requires.held.points p h) near, refl))
