use Rattle.std.proofs.Common.{◌∙◌}
use Rattle.std.proofs.lemmas.Result.{IfOk-weaker}
use Rattle.cad_views.specs.Land.{apart_from}
use Rattle.cad_views.proofs.LandFacts.{apart-permuted}
use Rattle.cad_views.proofs.land.turns_apart.Goals as goal

pub returns : goal.returns
returns c =
    let others = c.in_ok-others.others.items in
    let turns = c.in_ok-turns.turns.items in
    IfOk-weaker c.apart_from.result _ _
    (λ listed is.
    is ∙ (λ i. apart_from (c.as_slice.ensures.value i) (c.as_slice-2.ensures.value i))
    ∙ apart-permuted others c.put_in_order.new.places.items turns c.put_in_order.ensures.same
    ∙ (λ i. apart_from (c.in_ok-others.ensures i) (c.in_ok-turns.ensures i)))
    c.apart_from.ensures
