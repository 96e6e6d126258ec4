use Rattle.std.proofs.Common.{◌≡◌, sym, subst, List}
use Rattle.std.specs.List.{Contains}
use Rattle.half_table.specs.Half.{twin}
use Rattle.half_table.specs.Rows.{origin_of}
use Rattle.key_lists.specs.Held.{items_at}
use Rattle.map_parts.specs.declared.stars.Spoke.{Spoke}
use Rattle.map_parts.specs.Parts.{Parts}
use Rattle.map_parts.specs.Stars.{spoke}
use Rattle.cad_surgery.proofs.PartsStars.{spoke-ends}
use Rattle.cad_surgery.proofs.draft.Draft.far_in.Goals as goal

pub returns-in-Some : goal.returns-in-Some
returns-in-Some g c =
    let half = c.args.half.now in
    let far = c.in-Some.far in
    let star = subst (λ (d : Parts). c.args.here.now ≡ items_at d.stars c.args.point) (sym c.self.view_is) c.requires.star in
    let there = subst (λ (l : List Spoke). Contains l (spoke half far)) star (rw c.in-Some.is at c.far_in_star.ensures.there) in
    subst (λ (d : Parts). far ≡ origin_of d.table.rows (twin half)) c.self.view_is
    (spoke-ends _ c.self.invariant c.args.point half far there)
