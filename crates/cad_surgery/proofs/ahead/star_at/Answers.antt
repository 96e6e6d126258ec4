use Rattle.std.proofs.Common.{◌∙◌, ap, subst, List}
use Rattle.std.specs.List.{Contains}
use Rattle.key_lists.specs.Held.{items_at}
use Rattle.map_parts.specs.declared.stars.Spoke.{Spoke}
use Rattle.map_parts.specs.Parts.{Parts, FitTogether}
use Rattle.map_parts.proofs.PartsRings.{in_table}
use Rattle.map_parts.proofs.StarHalves.{spoke-is}
use Rattle.cad_surgery.proofs.ahead.star_at.Goals as goal

-- the halves in a star are those of the map's strings
pub returns : goal.returns
returns g c =
    let fit = subst FitTogether c.draft.view_is c.draft.invariant in
    let d = c.args.draft.now in
    let lent = c.star_of.ensures ∙ ap (λ (q : Parts). items_at q.stars c.args.point) c.draft.view_is in
    (λ x among. in_table d fit x.half (spoke-is d fit.ends fit.two_ends fit.stars c.args.point x (subst (λ (l : List Spoke). Contains l x) lent among)).shown)
