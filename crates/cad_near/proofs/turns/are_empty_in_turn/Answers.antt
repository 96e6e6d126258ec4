use Rattle.std.proofs.Common.{◌≡◌, ◌<◌, ◌∙◌, sym, subst, List, length, get_or, true, inl, inr, arith}
use Rattle.std.proofs.lemmas.List.{get_or_default}
use Rattle.std.proofs.lemmas.Option.{slice_get-get_or}
use Rattle.cad_rings.specs.Surgery.{corner}
use Rattle.cad_map.specs.Valid.{is_empty_corner}
use Rattle.cad_map.specs.declared.stars.Spoke.{Spoke}
use Rattle.cad_valid.specs.Corners.{is_empty_after}
use Rattle.cad_valid.proofs.CallerLemmas.{all-stops, all-goes}
use Rattle.cad_near.proofs.CornersInTurn.{clear-in_turn}
use Rattle.cad_valid.proofs.TurnNeighbours.{IsPlaceBefore}
use Rattle.cad_near.proofs.turns.are_empty_in_turn.Goals as goal
use Rattle.cad_near.proofs.turns.are_empty_in_turn.Goals.{then-place-eq0, else-place-eq0}

pub is_empty_beside-requires-clause-clear : goal.is_empty_beside-requires-clause-clear
is_empty_beside-requires-clause-clear g c =
    let m = g.M.MapView.map c.args.map.now in
    let order : List Spoke = c.args.order.now in
    let i = c.loop-place.place in
    let q = c.if-place-eq0.before in
    let u : Spoke = c.index-order-place.result in
    let w : Spoke = c.index-order-before.result in
    let within = c.loop-place-test.true in
    let many = c.requires.many in
    let before : IsPlaceBefore q i (length order) = elim c.if-place-eq0.branch [
      | then-place-eq0 b ↦ inr (b.if-place-eq0.true, b.before-is)
      | else-place-eq0 b ↦ let some = b.if-place-eq0.false in inl (omega arith, b.before-is)
    ] in
    let behind : q < length order = elim before [ inl here ↦ let is = here.1 in omega arith | inr here ↦ let is = here.1 in omega arith ] in
    subst (λ (x : Spoke). is_empty_corner m (corner (get_or order i u).far c.args.point x.far) ≡ true) (get_or_default order q u w behind)
    (clear-in_turn m c.args.point order c.requires.spokes c.requires.turn many i q u within behind before)

pub returns-then-not-is_empty_beside : goal.returns-then-not-is_empty_beside
returns-then-not-is_empty_beside g c =
    let empty = λ (x : Spoke). is_empty_after (g.M.MapView.map c.args.map.now) (x.far, c.args.point) in
    let order : List Spoke = c.args.order.now in
    let there = slice_get-get_or order c.loop-place.place c.index-order-place.result c.loop-place-test.true in
    let fails = sym c.is_empty_beside.ensures ∙ c.if-not-is_empty_beside.true in
    sym (c.loop-place.invariant ∙ all-stops empty order c.loop-place.place _ there fails)

pub loop-place-preserved : goal.loop-place-preserved
loop-place-preserved g c =
    let empty = λ (x : Spoke). is_empty_after (g.M.MapView.map c.args.map.now) (x.far, c.args.point) in
    let order : List Spoke = c.args.order.now in
    let there = slice_get-get_or order c.loop-place.place c.index-order-place.result c.loop-place-test.true in
    let passes = sym c.is_empty_beside.ensures ∙ c.if-not-is_empty_beside.false in
    c.loop-place.invariant ∙ all-goes empty order c.loop-place.place _ there passes
