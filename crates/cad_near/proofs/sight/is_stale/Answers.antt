use Rattle.std.proofs.Common.{◌∙◌, Bool, sym, subst, ap, not}
use Rattle.std.specs.Prelude.{◌↔◌, IsTrue}
use Rattle.cad_near.specs.Seen.{lies_alike, lying_string, held_string, HasStringThere}
use Rattle.cad_near.proofs.SightOfMap.{row-stale}
use Rattle.cad_near.proofs.sight.is_stale.Goals as goal

pub returns-in-Some : goal.returns-in-Some
returns-in-Some g c =
    let m = g.M.MapView.map c.args.map.now in
    let is = c.lie_alike.ensures ∙ (λ i. lies_alike (c.lying_string.ensures i) (c.lying_held.ensures i)) in
    subst (λ (b : Bool). IsTrue b ↔ (¬ HasStringThere m c.args.held.now)) (ap not (sym is))
    (row-stale (lying_string m) m.strings c.requires.strings.distinct (held_string c.args.held.now) c.in-Some.row.now (sym c.in-Some.ensures))
