use Rattle.std.proofs.Common.{◌∙◌, ap, sym, List, ◌++◌, ◌∷◌, [], append_assoc, map}
use Rattle.std.specs.Prelude.{codes}
use Rattle.std.specs.List.{join_with_byte}
use Rattle.std.proofs.lemmas.List.{take_all, append-nil}
use Rattle.geo_exact.specs.Position.{Position}
use Rattle.cad_views.specs.WellKnown.{coordinates}
use Rattle.cad_views.proofs.JoinFacts.{joined-step}
use Rattle.cad_views.proofs.telling.push_places.Goals as goal

pub loop-index-init : goal.loop-index-init
loop-index-init c = sym (append-nil c.args.text.now.items)

pub loop-index-preserved : goal.loop-index-preserved
loop-index-preserved c =
    let a = c.index-places-index.result in
    joined-step (λ (a : Position). codes " " ++ coordinates a) c.args.places.now c.loop-index.index a c.args.text.now.items _ _ _ c.loop-index-test.true c.index-places-index.is
    c.loop-index.invariant c.in_ok-push_separator.ensures
    (c.in_ok-push_coordinates.ensures ∙ ap (λ (l : List _). l ++ coordinates a) c.in_ok-push.ensures.items ∙ append_assoc c.push_separator.new.text.items (32 ∷ []) (coordinates a))

pub returns : goal.returns
returns c =
    c.loop-index.invariant ∙ ap (λ (l : List Position). c.args.text.now.items ++ join_with_byte 44 (map (λ (a : Position). codes " " ++ coordinates a) l)) (take_all c.loop-index.index c.args.places.now c.loop-index-test.false)
