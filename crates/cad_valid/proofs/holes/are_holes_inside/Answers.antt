use Rattle.std.proofs.Common.{◌∙◌, sym, []}
use Rattle.cad_map.specs.Map.{rings_at}
use Rattle.cad_valid.specs.Holes.{is_inside_if_hole}
use Rattle.cad_valid.proofs.Tests.{all-stops_at, all-done_at}
use Rattle.cad_valid.proofs.FacesOfMap.{inside-by_rings, inside-canonical_order}
use Rattle.cad_valid.proofs.holes.are_holes_inside.Goals as goal

pub returns-then-not-is_inside_if_hole : goal.returns-then-not-is_inside_if_hole
returns-then-not-is_inside_if_hole g c =
    let m = g.M.MapView.map c.args.map.now in
    let rings = rings_at c.args.face.now (g.M.MapView.rings c.args.map.now) in
    let told = c.ring_count-place-end.ensures in
    sym (sym (inside-canonical_order m c.args.face.now _ told.canonical_order) ∙ inside-by_rings m rings ∙ c.loop-place.invariant
    ∙ all-stops_at (is_inside_if_hole m rings) rings [] _ told.count c.loop-place.place c.loop-place-test.true (sym c.is_inside_if_hole.ensures ∙ c.if-not-is_inside_if_hole.true))

pub returns : goal.returns
returns g c =
    let m = g.M.MapView.map c.args.map.now in
    let rings = rings_at c.args.face.now (g.M.MapView.rings c.args.map.now) in
    let told = c.ring_count-place-end.ensures in
    sym (sym (inside-canonical_order m c.args.face.now _ told.canonical_order) ∙ inside-by_rings m rings ∙ c.loop-place.invariant
    ∙ all-done_at (is_inside_if_hole m rings) rings [] _ told.count c.loop-place.place c.loop-place-test.false)
