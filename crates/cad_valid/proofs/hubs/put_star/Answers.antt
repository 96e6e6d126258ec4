use Rattle.std.proofs.Common.{◌≡◌, ◌∙◌, subst, List}
use Rattle.std.specs.List.Sorted.{IsPermutation}
use Rattle.std.proofs.lemmas.Bool.{OnTrue_at}
use Rattle.geo_exact.specs.Position.{Position}
use Rattle.cad_map.specs.Stars.{star, spokes_of}
use Rattle.cad_map.specs.Turn.{AreMetInTurn}
use Rattle.cad_map.specs.declared.stars.Spoke.{Spoke}
use Rattle.cad_valid.specs.Hubs.{AreRegrouped}
use Rattle.cad_valid.proofs.HubFacts.{fanned-in_turn, groups-put}
use Rattle.cad_valid.proofs.hubs.put_star.Goals as goal
use Rattle.cad_valid.proofs.hubs.put_star.Goals.{then-sort_in_turn, else-sort_in_turn}

pub returns-clause-groups : goal.returns-clause-groups
returns-clause-groups c =
    let m = c.args.map.now in
    let p = c.args.point in
    let order = c.sort_in_turn.new.spokes in
    let all : c.as_mut_slice.result.now ≡ star p (spokes_of m) = c.as_mut_slice.ensures.value ∙ c.in_ok-order.ensures.items ∙ c.requires.all in
    let moved = subst (λ (l : List Spoke). IsPermutation l order) all c.sort_in_turn.ensures.same in
    elim c.if-sort_in_turn.branch [
      | then-sort_in_turn w ↦
          let met = subst (λ (v : Position). AreMetInTurn v order) c.position.ensures (OnTrue_at w.if-sort_in_turn.true c.sort_in_turn.ensures.turn) in
          let each = subst (λ (l : List Spoke). AreRegrouped p l c.args.groups.now.items w.put_hub.new.groups.items) c.requires.all w.put_hub.ensures.each in
          rw w.groups-is
          (groups-put m p c.args.groups.now.items w.put_hub.new.groups.items w.put_hub.ensures.small (fanned-in_turn m p order moved met) c.requires.groups w.put_hub.ensures.count each)
      | else-sort_in_turn w ↦ rw w.groups-is c.requires.groups
    ]
