use Rattle.std.proofs.Common.{subst, List}
use Rattle.std.specs.Prelude.{IsPermutation}
use Rattle.std.proofs.lemmas.Bool.{OnTrue_at, OnTrue_from}
use Rattle.geo_exact.specs.Position.{Position}
use Rattle.cad_map.specs.Turn.{AreMetInTurn}
use Rattle.cad_map.specs.declared.stars.Spoke.{Spoke}
use Rattle.cad_near.proofs.ManyStrings.{apart-in_turn}
use Rattle.cad_near.proofs.many.lead_apart.Goals as goal

pub returns : goal.returns
returns g c =
    let m = g.M.MapView.map c.args.map.now in
    let order = c.sort_in_turn.new.spokes in
    let moved = subst (λ (l : List Spoke). IsPermutation l order) c.as_mut_slice.ensures.value c.sort_in_turn.ensures.same in
    OnTrue_from c.sort_in_turn.result _ (λ is.
    let met = subst (λ (v : Position). AreMetInTurn v order) c.position.ensures (OnTrue_at is c.sort_in_turn.ensures.turn) in
    apart-in_turn m c.args.point c.in-Ok.spokes.items order c.in-Ok.ensures.strings moved met)
