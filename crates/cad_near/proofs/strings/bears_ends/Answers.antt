use Rattle.std.proofs.Common.{rules, tests, refl}
use Rattle.std.proofs.lemmas.Iterator.{cases_from_all}
use Rattle.std.proofs.lemmas.Iterator.Consumers.{YieldsList-from_first}
use Rattle.geo_exact.specs.Segment.{IsOnSegment}
use Rattle.geo_exact.proofs.CallerLemmas.{boxes_overlap-HaveCommonLocation}
use Rattle.cad_map.specs.Map.{position_of}
use Rattle.cad_map.specs.Valid.{LiesOnlyAsEnd}
use Rattle.cad_near.specs.Near.{OfPoint}
use Rattle.cad_near.proofs.Candidates.{passed-points}
use Rattle.cad_near.proofs.strings.bears_ends.Goals as goal

pub returns : goal.returns
returns g c =
    let m = g.M.MapView.map c.args.map.now in
    passed-points m (λ p. LiesOnlyAsEnd m p c.args.string.now) (λ p. IsOnSegment (position_of m c.args.string.now.from) (position_of m c.args.string.now.to) p.position) c.point_candidates.result _
    (cases_from_all _ _ _ (λ h. OfPoint m (λ p. LiesOnlyAsEnd m p c.args.string.now) h.point) (λ h. ¬ OfPoint m (λ p. LiesOnlyAsEnd m p c.args.string.now) h.point) c.all.ensures.ran (YieldsList-from_first (λ x. x) (λ w. w) c.point_candidates.result refl)
    (λ x q k. search (rules, tests)) (λ x q k. search (rules, tests)))
    (λ p h on. (rw c.requires.here at c.point_candidates.ensures.all) p.number p.position (c.requires.held.points p h)
    (boxes_overlap-HaveCommonLocation (position_of m c.args.string.now.from) (position_of m c.args.string.now.to) p.position p.position on))
    (λ p near on. near on on)
