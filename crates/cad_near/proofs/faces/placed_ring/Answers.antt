use Rattle.std.proofs.Common.{◌≡◌, sym, ap, ◌∙◌, Some}
use Rattle.std.proofs.lemmas.Result.{IfOk-weaker}
use Rattle.cad_map.specs.Map.{position_of}
use Rattle.cad_map.specs.Walk.{walking, first_side}
use Rattle.cad_map.specs.Rings.{ring_at}
use Rattle.cad_map.proofs.CallerLemmas.{walked, walked-all}
use Rattle.cad_valid.proofs.CallerLemmas.{shape-along}
use Rattle.cad_near.proofs.FaceRings.{ring_at-few}
use Rattle.cad_valid.proofs.CallerLemmas.{placed-few}
use Rattle.cad_near.proofs.faces.placed_ring.Goals as goal

pub returns-clause-placed : goal.returns-clause-placed
returns-clause-placed g c =
    let m = g.M.MapView.map c.args.map.now in
    let bs = g.M.MapView.rings c.args.map.now in
    let at = walking g.M.MapView.map g.M.MapView.view_next in
    let told = c.of_ring-walk.ensures in
    let ring = ring_at bs c.args.face.now c.args.place in
    let first = c.first_side-first.result in
    let begins : first_side ring ≡ Some first = told.along.first ∙ ap Some (sym c.first_side-first.ensures) in
    IfOk-weaker c.of.result _ _
    (λ placed along.
    let drains = along.1 in
    let on = walked m bs c.requires.whole told.canonical_order told.two c.args.face.now c.args.place c.requires.there at c.of_ring-walk.result c.of_ring-walk.result (λ i. c.of_ring-walk.result) told.along along.0 drains.1.0 drains.1.1 in
    let all = walked-all m bs c.requires.whole told.canonical_order told.two c.args.face.now c.args.place c.requires.there along.0 (at drains.1.0) on drains.1.2.first.0 in
    along.2 ∙ shape-along (position_of m) ring first along.0 begins all)
    c.of.ensures

pub returns-clause-few : goal.returns-clause-few
returns-clause-few g c =
    let m = g.M.MapView.map c.args.map.now in
    let bs = g.M.MapView.rings c.args.map.now in
    let told = c.of_ring-walk.ensures in
    let few = ring_at-few m bs c.requires.whole told.canonical_order told.two c.args.face.now c.args.place c.requires.there in
    IfOk-weaker c.of.result _ _ (λ placed is. placed-few (position_of m) (ring_at bs c.args.face.now c.args.place) placed is few) (returns-clause-placed g c)
