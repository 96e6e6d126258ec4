use Rattle.std.proofs.Common.{rules, tests, refl}
use Rattle.std.proofs.lemmas.Iterator.{cases_from_all}
use Rattle.std.proofs.lemmas.Iterator.Consumers.{YieldsList-from_first}
use Rattle.geo_exact.proofs.CallerLemmas.{boxes_overlap-HaveCommonLocation}
use Rattle.cad_map.specs.Map.{position_of}
use Rattle.cad_map.specs.Valid.{HaveCommon}
use Rattle.cad_near.specs.Near.{OfString, MeetsIfOther}
use Rattle.cad_near.proofs.Candidates.{passed-strings}
use Rattle.cad_near.proofs.strings.meets_at_ends.Goals as goal

pub returns : goal.returns
returns g c =
    let m = g.M.MapView.map c.args.map.now in
    passed-strings m (MeetsIfOther m c.args.string.now) (λ t. HaveCommon m c.args.string.now t) c.candidates.result _
    (cases_from_all _ _ _ (λ h. OfString m (MeetsIfOther m c.args.string.now) h.string) (λ h. ¬ OfString m (MeetsIfOther m c.args.string.now) h.string) c.all.ensures.ran (YieldsList-from_first (λ x. x) (λ w. w) c.candidates.result refl)
    (λ x q k. search (rules, tests)) (λ x q k. search (rules, tests)))
    (λ t h common. (rw c.requires.here at c.candidates.ensures.all) t.number (position_of m t.from) (position_of m t.to) (c.requires.held.strings t h)
    (boxes_overlap-HaveCommonLocation (position_of m c.args.string.now.from) (position_of m c.args.string.now.to) (position_of m t.from) (position_of m t.to) common))
    (λ t near ne common. near common ne common)
