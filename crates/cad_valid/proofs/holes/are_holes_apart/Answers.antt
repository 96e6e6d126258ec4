use Rattle.std.proofs.Common.{◌∙◌, sym, drop, ◌+◌, []}
use Rattle.cad_map.specs.Map.{rings_at}
use Rattle.cad_map.specs.Rings.{ring_at}
use Rattle.cad_valid.specs.Holes.{are_apart_if_holes}
use Rattle.cad_valid.proofs.Tests.{pairs-stop_at, pairs-go_at, pairs-done_at}
use Rattle.cad_valid.proofs.FacesOfMap.{apart-by_rings, apart-from_one, apart-canonical_order}
use Rattle.cad_valid.proofs.holes.are_holes_apart.Goals as goal

pub returns-then-not-is_apart_from_later : goal.returns-then-not-is_apart_from_later
returns-then-not-is_apart_from_later g c =
    let m = g.M.MapView.map c.args.map.now in
    let bs = g.M.MapView.rings c.args.map.now in
    let rings = rings_at c.args.face.now bs in
    let told = c.ring_count-place-end.ensures in
    let one = apart-from_one m (ring_at bs c.args.face.now c.loop-place.place) (drop (c.loop-place.place + 1) rings) in
    sym (sym (apart-canonical_order m c.args.face.now bs told.canonical_order) ∙ apart-by_rings m rings ∙ c.loop-place.invariant
    ∙ pairs-stop_at (are_apart_if_holes m) rings [] _ told.count c.loop-place.place c.loop-place-test.true (one ∙ sym c.is_apart_from_later.ensures ∙ c.if-not-is_apart_from_later.true))

pub loop-place-preserved : goal.loop-place-preserved
loop-place-preserved g c =
    let m = g.M.MapView.map c.args.map.now in
    let rings = rings_at c.args.face.now (g.M.MapView.rings c.args.map.now) in
    let one = apart-from_one m (ring_at (g.M.MapView.rings c.args.map.now) c.args.face.now c.loop-place.place) (drop (c.loop-place.place + 1) rings) in
    c.loop-place.invariant
    ∙ pairs-go_at (are_apart_if_holes m) rings [] _ c.ring_count-place-end.ensures.count c.loop-place.place c.loop-place-test.true (one ∙ sym c.is_apart_from_later.ensures ∙ c.if-not-is_apart_from_later.false)

pub returns : goal.returns
returns g c =
    let m = g.M.MapView.map c.args.map.now in
    let rings = rings_at c.args.face.now (g.M.MapView.rings c.args.map.now) in
    let told = c.ring_count-place-end.ensures in
    sym (sym (apart-canonical_order m c.args.face.now _ told.canonical_order) ∙ apart-by_rings m rings ∙ c.loop-place.invariant
    ∙ pairs-done_at (are_apart_if_holes m) rings [] _ told.count c.loop-place.place c.loop-place-test.false)
