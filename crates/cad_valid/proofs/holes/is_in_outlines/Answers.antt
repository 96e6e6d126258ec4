use Rattle.std.proofs.Common.{◌∙◌, sym, []}
use Rattle.cad_map.specs.Map.{rings_at}
use Rattle.cad_valid.specs.Holes.{has_inside_if_outline}
use Rattle.cad_valid.proofs.Tests.{all-stops_at, all-done_at}
use Rattle.cad_valid.proofs.FacesOfMap.{outlines-by_rings}
use Rattle.cad_valid.proofs.holes.is_in_outlines.Goals as goal

pub returns-then-not-has_inside_if_outline : goal.returns-then-not-has_inside_if_outline
returns-then-not-has_inside_if_outline g c =
    let m = g.M.MapView.map c.args.map.now in
    let rings = rings_at c.args.face.now (g.M.MapView.rings c.args.map.now) in
    sym (outlines-by_rings m c.args.point rings ∙ c.loop-place.invariant
    ∙ all-stops_at (has_inside_if_outline m c.args.point) rings [] _ c.ring_count-place-end.ensures.count c.loop-place.place c.loop-place-test.true
    (sym c.has_inside_if_outline.ensures ∙ c.if-not-has_inside_if_outline.true))

pub returns : goal.returns
returns g c =
    let m = g.M.MapView.map c.args.map.now in
    let rings = rings_at c.args.face.now (g.M.MapView.rings c.args.map.now) in
    sym (outlines-by_rings m c.args.point rings ∙ c.loop-place.invariant
    ∙ all-done_at (has_inside_if_outline m c.args.point) rings [] _ c.ring_count-place-end.ensures.count c.loop-place.place c.loop-place-test.false)
