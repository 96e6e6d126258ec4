use Rattle.std.proofs.Common.{rules, tests}
use Rattle.std.proofs.lemmas.Iterator.{YieldsList-from_slice, cases_from_all}
use Rattle.cad_near.specs.Near.{HasEmptyCornersAt}
use Rattle.cad_near.proofs.Candidates.{passed-all}
use Rattle.cad_near.proofs.corners.are_empty_at.Goals as goal

pub returns : goal.returns
returns g c =
    let m = g.M.MapView.map c.args.map.now in
    passed-all (HasEmptyCornersAt m) c.args.points.now _ (cases_from_all _ _ _ (HasEmptyCornersAt m) (λ x. ¬ (HasEmptyCornersAt m) x) c.all.ensures.ran (YieldsList-from_slice c.args.points.now cc)
    (λ x q k. search (rules, tests)) (λ x q k. search (rules, tests)))
