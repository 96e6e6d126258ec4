use Rattle.std.proofs.Common.{rules, tests, ◌≡◌, refl, sym, subst}
use Rattle.std.proofs.lemmas.Iterator.{cases_from_all}
use Rattle.std.proofs.lemmas.Iterator.Consumers.{YieldsList-from_first}
use Rattle.geo_exact.specs.Segment.{IsOnSegment}
use Rattle.geo_exact.proofs.CallerLemmas.{IsOnSegment-first, boxes_overlap-HaveCommonLocation}
use Rattle.cad_near.specs.Near.{OfPoint, IsApart}
use Rattle.cad_near.proofs.Candidates.{passed-points}
use Rattle.cad_near.proofs.points.is_alone.Goals as goal

pub returns : goal.returns
returns g c =
    let m = g.M.MapView.map c.args.map.now in
    let p = c.args.point.now in
    passed-points m (IsApart p) (λ q. q.position ≡ p.position) c.point_candidates.result _
    (cases_from_all _ _ _ (λ h. OfPoint m (IsApart p) h.point) (λ h. ¬ OfPoint m (IsApart p) h.point) c.all.ensures.ran (YieldsList-from_first (λ x. x) (λ w. w) c.point_candidates.result refl)
    (λ x q k. search (rules, tests)) (λ x q k. search (rules, tests)))
    (λ q h same. c.point_candidates.ensures.all q.number q.position (c.requires.held.points q h)
    (boxes_overlap-HaveCommonLocation p.position p.position q.position q.position
    (subst (IsOnSegment p.position p.position) (sym same) (IsOnSegment-first p.position p.position))))
    (λ q near ne same. near same ne same)
