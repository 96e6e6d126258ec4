use Rattle.std.proofs.lemmas.Bool.{eqb-true}
use Rattle.cad_map.proofs.CallerLemmas.{All-at_each}
use Rattle.cad_near.specs.Near.{HasEmptyCornersAt}
use Rattle.cad_near.proofs.corners.is_empty_end.Goals as goal

pub returns-then-contains : goal.returns-then-contains
returns-then-contains g c =
    let (place, within, is) = c.if-contains.ensures.cases in
    let there = All-at_each (HasEmptyCornersAt (g.M.MapView.map c.args.map.now)) c.args.points.now c.args.end c.requires.points (place, within, eqb-true _ c.args.end (is c.args.end)) in
    ((λ _. there), (λ _. c.if-contains.true))
