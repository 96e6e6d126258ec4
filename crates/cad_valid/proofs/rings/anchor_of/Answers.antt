use Rattle.std.proofs.Common.{◌≡◌, sym, subst, ap, ◌∙◌, ℕ, List, min, fold, map, Some, arith}
use Rattle.std.specs.Prelude.{IsTrue}
use Rattle.cad_map.specs.Map.{has_point}
use Rattle.cad_rings.specs.Cycle.{Side}
use Rattle.cad_map.specs.Walk.{walking, first_side}
use Rattle.cad_map.specs.Rings.{ring_at}
use Rattle.cad_map.proofs.CallerLemmas.{walked, walked-all, least-more, least-all, anchor-there}
use Rattle.cad_valid.proofs.rings.anchor_of.Goals as goal

pub loop-point-preserved : goal.loop-point-preserved
loop-point-preserved g c =
    let more = least-more c.first_side-least.result.0 c.loop-point.yielded (c.in-Some.point, c.in-Some.field-0-1) in
    let so_far = c.loop-point.invariant in
    omega arith

pub returns-clause-value : goal.returns-clause-value
returns-clause-value g c =
    let m = g.M.MapView.map c.args.map.now in
    let bs = g.M.MapView.rings c.args.map.now in
    let at = walking g.M.MapView.map g.M.MapView.view_next in
    let told = c.of_ring-walk.ensures in
    let on = walked m bs c.requires.whole told.canonical_order told.two c.args.face.now c.args.place c.requires.there at c.of_ring-walk.result c.into_iter-point-iterator.result c.into_iter-point-iterator.ensures.into_iter_gives told.along c.loop-point.yielded c.loop-point.point-iterator c.loop-point.yielded_by in
    let none = rw c.in-None.is at c.next.ensures.steps in
    let all = walked-all m bs c.requires.whole told.canonical_order told.two c.args.face.now c.args.place c.requires.there c.loop-point.yielded (at c.loop-point.point-iterator) on none.first.0 in
    let begins : first_side (ring_at bs c.args.face.now c.args.place) ≡ Some c.first_side-least.result = told.along.first ∙ ap Some (sym c.first_side-least.ensures) in
    c.loop-point.invariant
    ∙ ap (λ (sides : List Side). fold min c.first_side-least.result.0 (map (λ (s : Side). s.0) sides)) all
    ∙ least-all c.first_side-least.result (ring_at bs c.args.face.now c.args.place) begins

pub returns-clause-point : goal.returns-clause-point
returns-clause-point g c =
    let m = g.M.MapView.map c.args.map.now in
    let told = c.of_ring-walk.ensures in
    subst (λ (p : ℕ). IsTrue (has_point m p)) (sym (returns-clause-value g c))
    (anchor-there m (g.M.MapView.rings c.args.map.now) c.requires.whole told.canonical_order told.two c.args.face.now c.args.place c.requires.there)
