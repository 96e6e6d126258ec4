use Rattle.std.proofs.Common.{◌∙◌, Bool, sym, subst, ap, not}
use Rattle.std.specs.Prelude.{◌↔◌, IsTrue}
use Rattle.cad_near.specs.Seen.{lies_alike, lying_point, held_point, HasPointThere}
use Rattle.cad_near.proofs.SightOfMap.{row-stale}
use Rattle.cad_near.proofs.sight.is_stale_point.Goals as goal

pub returns-in-Some : goal.returns-in-Some
returns-in-Some g c =
    let m = g.M.MapView.map c.args.map.now in
    let is = c.lie_alike.ensures ∙ (λ i. lies_alike (c.lying_point.ensures i) (c.lying_held_point.ensures i)) in
    subst (λ (b : Bool). IsTrue b ↔ (¬ HasPointThere m c.args.held.now)) (ap not (sym is))
    (row-stale lying_point m.points c.requires.points.distinct (held_point c.args.held.now) c.in-Some.row.now (sym c.in-Some.ensures))
