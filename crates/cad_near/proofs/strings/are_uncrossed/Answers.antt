use Rattle.std.proofs.Common.{rules, tests}
use Rattle.std.proofs.lemmas.Iterator.{YieldsList-from_slice, cases_from_all}
use Rattle.cad_near.specs.Near.{OfString, IsUncrossed}
use Rattle.cad_near.proofs.Candidates.{passed-all}
use Rattle.cad_near.proofs.strings.are_uncrossed.Goals as goal

pub returns : goal.returns
returns g c =
    let m = g.M.MapView.map c.args.map.now in
    passed-all (OfString m (IsUncrossed m)) c.args.strings.now _ (cases_from_all _ _ _ (OfString m (IsUncrossed m)) (λ x. ¬ (OfString m (IsUncrossed m)) x) c.all.ensures.ran (YieldsList-from_slice c.args.strings.now cc)
    (λ x q k. search (rules, tests)) (λ x q k. search (rules, tests)))
