use Rattle.std.proofs.Common.{◌∙◌, ◌<◌, ◌≤◌, ◌++◌, ◌∷◌, [], ℕ, List, ap, subst, length, map, take}
use Rattle.std.proofs.lemmas.List.{take_all}
use Rattle.geo_exact.specs.Position.{Position}
use Rattle.cad_rings.specs.Cycle.{Ring, anchor_of}
use Rattle.cad_map.specs.Map.{rings_at, position_of}
use Rattle.cad_surgery.proofs.MovedHalves.{told-push}
use Rattle.cad_surgery.proofs.edits.moved.anchors_at.Goals as goal

pub loop-place-preserved : goal.loop-place-preserved
loop-place-preserved g c =
    let m = g.M.MapView.map c.args.map.now in
    let rings = rings_at c.args.face.now (g.M.MapView.rings c.args.map.now) in
    let within : c.loop-place.place < length rings = subst (λ (n : ℕ). c.loop-place.place < n) c.ring_count-place-end.ensures.count c.loop-place-test.true in
    let told = c.position.ensures ∙ ap (position_of m) c.anchor_of.ensures.value in
    c.in_ok-push.ensures.items ∙ ap (λ (l : List Position). l ++ c.position.result ∷ []) c.loop-place.invariant
    ∙ ap (λ (x : Position). map (λ (r : Ring). position_of m (anchor_of r)) (take c.loop-place.place rings) ++ x ∷ []) told
    ∙ told-push (λ (r : Ring). position_of m (anchor_of r)) rings c.loop-place.place [] within

pub returns : goal.returns
returns g c =
    let m = g.M.MapView.map c.args.map.now in
    let rings = rings_at c.args.face.now (g.M.MapView.rings c.args.map.now) in
    let past = subst (λ (n : ℕ). n ≤ c.loop-place.place) c.ring_count-place-end.ensures.count c.loop-place-test.false in
    c.loop-place.invariant ∙ ap (map (λ (r : Ring). position_of m (anchor_of r))) (take_all c.loop-place.place rings past)
