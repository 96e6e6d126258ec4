use Rattle.std.proofs.Common.{subst}
use Rattle.std.specs.Prelude.{IfSome}
use Rattle.cad_near.specs.Seen.{IsSeenAlone}
use Rattle.cad_near.proofs.SightOfMap.{uncrossed-by_sight}
use Rattle.cad_near.proofs.are_seen_uncrossed.Goals as goal

pub returns-in-Some : goal.returns-in-Some
returns-in-Some g c t seen sees =
    let m = g.M.MapView.map c.args.map.now in
    uncrossed-by_sight m c.requires.rows t c.in-Some.seen.now (subst (λ o. IfSome o (λ v. IsSeenAlone m t v.now)) c.in-Some.is seen)
    (c.sees_strings_clear.ensures.0 sees)
