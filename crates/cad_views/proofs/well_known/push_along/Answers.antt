use Rattle.std.proofs.Common.{◌∙◌, ap, sym, ℕ, List, ◌++◌}
use Rattle.std.proofs.lemmas.List.{take_all, append-nil}
use Rattle.std.specs.List.{join_with_byte}
use Rattle.std.proofs.Common.{map}
use Rattle.geo_exact.specs.Position.{Position}
use Rattle.cad_map.specs.Map.{position_of}
use Rattle.cad_views.specs.WellKnown.{coordinates, coordinates_along}
use Rattle.cad_views.proofs.JoinFacts.{joined-step}
use Rattle.cad_views.proofs.well_known.push_along.Goals as goal

pub loop-place-init : goal.loop-place-init
loop-place-init g c = sym (append-nil c.args.text.now.items)

pub loop-place-preserved : goal.loop-place-preserved
loop-place-preserved g c =
    let m = g.M.MapView.map c.args.map.now in
    joined-step (λ (p : ℕ). coordinates (position_of m p)) c.args.points.now c.loop-place.place c.index-points-place.result c.args.text.now.items _ _ _ c.loop-place-test.true c.index-points-place.is
    c.loop-place.invariant c.in_ok-push_separator.ensures (c.in_ok-push_coordinates.ensures ∙ ap (λ (q : Position). c.push_separator.new.text.items ++ coordinates q) c.position.ensures)

pub returns : goal.returns
unfolding coordinates_along
returns g c =
    let m = g.M.MapView.map c.args.map.now in
    c.loop-place.invariant ∙ ap (λ (l : List ℕ). c.args.text.now.items ++ join_with_byte 44 (map (λ (p : ℕ). coordinates (position_of m p)) l)) (take_all c.loop-place.place c.args.points.now c.loop-place-test.false)
