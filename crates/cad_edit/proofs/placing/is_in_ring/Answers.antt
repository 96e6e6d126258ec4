use Rattle.std.proofs.Common.{refl, sym, ap, ◌∙◌, List, ◌++◌, true, false}
use Rattle.std.proofs.lemmas.List.{append-nil}
use Rattle.std.specs.Prelude.{not}
use Rattle.geo_exact.specs.Inside.{is_inside, is_counted}
use Rattle.cad_rings.specs.Cycle.{Side, placed}
use Rattle.cad_rings.specs.SidesLeft.{sides_left}
use Rattle.cad_map.specs.Map.{position_of}
use Rattle.cad_map.proofs.CallerLemmas.{inside-more}
use Rattle.cad_edit.proofs.SidesGiven.{given-more}
use Rattle.cad_edit.proofs.placing.is_in_ring.Goals as goal

pub loop-from-init : goal.loop-from-init
loop-from-init g c = record { whole = ap sides_left c.into_iter-from-iterator.ensures.into_iter_gives ∙ c.sides-from-items.ensures; value = refl }

pub loop-from-preserved-then-crosses : goal.loop-from-preserved-then-crosses
loop-from-preserved-then-crosses g c =
    let side : Side = (c.in-Some.from, c.in-Some.to) in
    let counted = sym c.if-crosses.true ∙ c.crosses.ensures ∙ (λ i. is_counted (c.position.ensures i) (c.position-in-loop-from.ensures i) c.position-at.result) in
    record {
      whole = given-more c.args.ring.now c.loop-from.yielded _ _ side c.loop-from.invariant.whole c.in-Some.ensures.steps;
      value = ap not c.loop-from.invariant.value ∙ sym (inside-more (position_of (g.M.MapView.map c.args.map.now)) c.loop-from.yielded side c.position-at.result true counted);
    }

pub loop-from-preserved : goal.loop-from-preserved
loop-from-preserved g c =
    let side : Side = (c.in-Some.from, c.in-Some.to) in
    let counted = sym c.if-crosses.false ∙ c.crosses.ensures ∙ (λ i. is_counted (c.position.ensures i) (c.position-in-loop-from.ensures i) c.position-at.result) in
    record {
      whole = given-more c.args.ring.now c.loop-from.yielded _ _ side c.loop-from.invariant.whole c.in-Some.ensures.steps;
      value = c.loop-from.invariant.value ∙ sym (inside-more (position_of (g.M.MapView.map c.args.map.now)) c.loop-from.yielded side c.position-at.result false counted);
    }

pub returns : goal.returns
returns g c =
    let position = position_of (g.M.MapView.map c.args.map.now) in
    let none = c.in-None.ensures.steps.0 in
    let all = sym (append-nil c.loop-from.yielded) ∙ ap (λ (l : List Side). c.loop-from.yielded ++ l) (sym none) ∙ c.loop-from.invariant.whole in
    c.loop-from.invariant.value ∙ (λ i. is_inside (placed position (all i)) (c.position-at.ensures i))
