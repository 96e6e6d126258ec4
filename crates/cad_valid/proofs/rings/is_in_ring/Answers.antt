use Rattle.std.proofs.Common.{sym, ap, ◌∙◌, List, false}
use Rattle.cad_rings.specs.Cycle.{Side}
use Rattle.cad_map.specs.Walk.{walking}
use Rattle.cad_rings.specs.Cycle.{placed}
use Rattle.geo_exact.specs.Inside.{is_inside, is_counted}
use Rattle.cad_map.specs.Map.{position_of}
use Rattle.cad_map.proofs.CallerLemmas.{walked, walked-all, inside-more}
use Rattle.cad_valid.proofs.rings.is_in_ring.Goals as goal

pub loop-a-preserved : goal.loop-a-preserved
loop-a-preserved g c =
    let position = position_of (g.M.MapView.map c.args.map.now) in
    let counted = sym c.if-crosses.false ∙ c.crosses.ensures ∙ (λ i. is_counted (c.position.ensures i) (c.position-in-loop-a.ensures i) c.args.at) in
    c.loop-a.invariant ∙ sym (inside-more position c.loop-a.yielded (c.in-Some.a, c.in-Some.b) c.args.at false counted)

pub returns : goal.returns
returns g c =
    let m = g.M.MapView.map c.args.map.now in
    let bs = g.M.MapView.rings c.args.map.now in
    let at = walking g.M.MapView.map g.M.MapView.view_next in
    let told = c.of_ring-a-items.ensures in
    let on = walked m bs c.requires.whole told.canonical_order told.two c.args.face.now c.args.place c.requires.there at c.of_ring-a-items.result c.into_iter-a-iterator.result c.into_iter-a-iterator.ensures.into_iter_gives told.along c.loop-a.yielded c.loop-a.a-iterator c.loop-a.yielded_by in
    let none = rw c.in-None.is at c.next.ensures.steps in
    let all = walked-all m bs c.requires.whole told.canonical_order told.two c.args.face.now c.args.place c.requires.there c.loop-a.yielded (at c.loop-a.a-iterator) on none.first.0 in
    c.loop-a.invariant ∙ ap (λ (sides : List Side). is_inside (placed (position_of m) sides) c.args.at) all
