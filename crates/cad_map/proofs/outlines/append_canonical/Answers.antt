use Rattle.std.proofs.Common.{rules, ◌∙◌, sym, ap, List, ◌++◌, map}
use Rattle.std.proofs.lemmas.List.{map-id}
use Rattle.std.proofs.lemmas.Iterator.Consumers.{YieldsList-end}
use Rattle.std.proofs.lemmas.Iterator.Adapters.{YieldsList-from_vec}
use Rattle.cad_rings.specs.Cycle.{Ring}
use Rattle.cad_map.specs.declared.boundary.Boundary.{Boundary}
use Rattle.cad_map.specs.Boundaries.{canonical_order}
use Rattle.cad_map.proofs.Boundaries.OutlineRings.{collected-canonical_order}
use Rattle.cad_map.proofs.outlines.append_canonical.Goals as goal

pub returns : goal.returns
returns g c =
    let rings : List Boundary → List Ring = λ bs. map (λ (b : Boundary). b.ring) bs in
    let end = YieldsList-end (YieldsList-from_vec {s = c.into_iter-boundary-iterator.result} c.in_canonical_order-boundary-items.result.items (search rules) (search rules))
    c.loop-boundary.yielded c.loop-boundary.boundary-iterator c.loop-boundary.yielded_by c.next.result c.next.new.self c.in-None.is c.next.ensures.steps in
    let all = sym (map-id c.loop-boundary.yielded) ∙ end.0 in
    c.loop-boundary.invariant ∙ ap (λ (l : List Ring). c.args.rings.now.items ++ l)
    (ap rings (all ∙ c.in_canonical_order-boundary-items.ensures.canonical_order) ∙ ap (λ (l : List Boundary). rings (canonical_order l)) c.in_ok-boundaries.ensures.kept
    ∙ collected-canonical_order (g.M.MapView.map c.args.map.now) c.args.face.now c.args.outer (g.M.MapView.rings c.args.map.now) c.in_ok-boundaries.ensures.canonical_order)
