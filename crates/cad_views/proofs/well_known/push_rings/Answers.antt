use Rattle.std.proofs.Common.{◌∙◌, ap, sym, List, ◌++◌, map}
use Rattle.std.proofs.lemmas.List.{take_all, append-nil}
use Rattle.std.specs.List.{join_with_byte}
use Rattle.cad_rings.specs.Cycle.{Ring}
use Rattle.cad_views.specs.WellKnown.{ring_text}
use Rattle.cad_views.proofs.JoinFacts.{joined-step}
use Rattle.cad_views.proofs.well_known.push_rings.Goals as goal

pub loop-place-init : goal.loop-place-init
loop-place-init g c = sym (append-nil c.args.text.now.items)

pub loop-place-preserved : goal.loop-place-preserved
loop-place-preserved g c =
    joined-step (ring_text (g.M.MapView.map c.args.map.now)) c.args.rings.now c.loop-place.place c.index-rings-place.result c.args.text.now.items _ _ _ c.loop-place-test.true c.index-rings-place.is
    c.loop-place.invariant c.in_ok-push_separator.ensures c.in_ok-push_ring.ensures

pub returns : goal.returns
returns g c =
    c.loop-place.invariant ∙ ap (λ (l : List Ring). c.args.text.now.items ++ join_with_byte 44 (map (ring_text (g.M.MapView.map c.args.map.now)) l)) (take_all c.loop-place.place c.args.rings.now c.loop-place-test.false)
