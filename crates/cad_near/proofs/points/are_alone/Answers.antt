use Rattle.std.proofs.Common.{rules, tests}
use Rattle.std.proofs.lemmas.Iterator.{YieldsList-from_slice, cases_from_all}
use Rattle.cad_near.specs.Near.{OfPoint, IsAlone}
use Rattle.cad_near.proofs.Candidates.{passed-all}
use Rattle.cad_near.proofs.points.are_alone.Goals as goal

pub returns : goal.returns
returns g c =
    let m = g.M.MapView.map c.args.map.now in
    passed-all (OfPoint m (IsAlone m)) c.args.points.now _ (cases_from_all _ _ _ (OfPoint m (IsAlone m)) (λ x. ¬ (OfPoint m (IsAlone m)) x) c.all.ensures.ran (YieldsList-from_slice c.args.points.now cc)
    (λ x q k. search (rules, tests)) (λ x q k. search (rules, tests)))
