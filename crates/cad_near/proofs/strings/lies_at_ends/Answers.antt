use Rattle.std.proofs.Common.{rules, tests, refl}
use Rattle.std.proofs.lemmas.Iterator.{cases_from_all}
use Rattle.std.proofs.lemmas.Iterator.Consumers.{YieldsList-from_first}
use Rattle.geo_exact.specs.Segment.{IsOnSegment}
use Rattle.geo_exact.proofs.CallerLemmas.{HaveCommonLocation-exchanged, boxes_overlap-HaveCommonLocation}
use Rattle.cad_map.specs.Map.{position_of}
use Rattle.cad_map.specs.Valid.{LiesOnlyAsEnd}
use Rattle.cad_near.specs.Near.{OfString}
use Rattle.cad_near.proofs.Candidates.{passed-strings}
use Rattle.cad_near.proofs.strings.lies_at_ends.Goals as goal

pub returns : goal.returns
returns g c =
    let m = g.M.MapView.map c.args.map.now in
    passed-strings m (LiesOnlyAsEnd m c.args.point.now) (λ s. IsOnSegment (position_of m s.from) (position_of m s.to) c.args.point.now.position) c.candidates.result _
    (cases_from_all _ _ _ (λ h. OfString m (LiesOnlyAsEnd m c.args.point.now) h.string) (λ h. ¬ OfString m (LiesOnlyAsEnd m c.args.point.now) h.string) c.all.ensures.ran (YieldsList-from_first (λ x. x) (λ w. w) c.candidates.result refl)
    (λ x q k. search (rules, tests)) (λ x q k. search (rules, tests)))
    (λ s h on. c.candidates.ensures.all s.number (position_of m s.from) (position_of m s.to) (c.requires.held.strings s h)
    (boxes_overlap-HaveCommonLocation c.args.point.now.position c.args.point.now.position (position_of m s.from) (position_of m s.to)
    (HaveCommonLocation-exchanged c.args.point.now.position c.args.point.now.position (position_of m s.from) (position_of m s.to) on)))
    (λ s near on. near on on)
