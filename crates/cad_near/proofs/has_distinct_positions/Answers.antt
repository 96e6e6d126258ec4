use Rattle.std.proofs.Common.{refl, subst}
use Rattle.std.specs.Prelude.{IfSome}
use Rattle.cad_valid.proofs.CallerLemmas.{iff-trans}
use Rattle.cad_near.specs.Near.{touched_of}
use Rattle.cad_near.specs.Seen.{IsSeenAlone}
use Rattle.cad_near.proofs.NearPoints.{near-points}
use Rattle.cad_near.proofs.SightOfMap.{alone-by_sight}
use Rattle.cad_near.proofs.has_distinct_positions.Goals as goal

pub returns-in-Some : goal.returns-in-Some
returns-in-Some g c =
    let m = g.M.MapView.map c.args.map.now in
    let from = c.requires.touched in
    let t = touched_of c.args.touched.now in
    let alone = alone-by_sight m c.requires.sound t _ (subst (λ o. IfSome o (λ v. IsSeenAlone m t v.now)) c.in-Some.is c.requires.seen) in
    ((λ _. (near-points from.before m t from.valid c.requires.sound c.requires.two from.touched).0 alone), (λ _. refl))

pub returns-in-None : goal.returns-in-None
returns-in-None g c =
    let m = g.M.MapView.map c.args.map.now in
    let from = c.requires.touched in
    iff-trans (rw c.as_slice.ensures.value at c.are_alone.ensures) (near-points from.before m (touched_of c.args.touched.now) from.valid c.requires.sound c.requires.two from.touched)
