use Rattle.std.proofs.Common.{◌∙◌, sym, subst, List}
use Rattle.cad_map.specs.declared.stars.Spoke.{Spoke}
use Rattle.cad_near.specs.Rays.{AreSpokesOf}
use Rattle.cad_near.proofs.CornersInTurn.{spokes-sorted, empty-by_spokes}
use Rattle.cad_near.proofs.turns.empty_by_turn.Goals as goal

pub are_empty_in_turn-requires-clause-spokes : goal.are_empty_in_turn-requires-clause-spokes
are_empty_in_turn-requires-clause-spokes g c =
    let m = g.M.MapView.map c.args.map.now in
    let p = c.args.point in
    let given : List Spoke = c.as_mut_slice-order.result.now in
    spokes-sorted m p given c.sort_in_turn.new.spokes (subst (AreSpokesOf m p) (sym c.as_mut_slice-order.ensures.value) c.in-Ok.ensures.rays)
    c.sort_in_turn.ensures.same

pub returns : goal.returns
returns g c =
    let m = g.M.MapView.map c.args.map.now in
    let p = c.args.point in
    let given : List Spoke = c.as_mut_slice-order.result.now in
    let are = spokes-sorted m p given c.sort_in_turn.new.spokes (subst (AreSpokesOf m p) (sym c.as_mut_slice-order.ensures.value) c.in-Ok.ensures.rays) c.sort_in_turn.ensures.same in
    let by = empty-by_spokes m p c.sort_in_turn.new.spokes are c.requires in
    ((λ is. by.0 (sym c.are_empty_in_turn.ensures ∙ is)), (λ empty. c.are_empty_in_turn.ensures ∙ by.1 empty))
