use Rattle.std.proofs.Common.{◌∙◌, ◌<◌, ◌≤◌, ◌++◌, ◌∷◌, [], ℕ, Bool, List, ap, subst, length, map, take}
use Rattle.std.proofs.lemmas.List.{take_all}
use Rattle.cad_rings.specs.Cycle.{Ring, anchor_of}
use Rattle.cad_map.specs.Map.{rings_at, is_in_ring}
use Rattle.cad_surgery.proofs.MovedHalves.{told-push}
use Rattle.cad_surgery.proofs.edits.moved.insides_of_few.Goals as goal

pub loop-place-preserved : goal.loop-place-preserved
loop-place-preserved g c =
    let m = g.M.MapView.map c.args.map.now in
    let rings = rings_at c.args.face.now (g.M.MapView.rings c.args.map.now) in
    let within : c.loop-place.place < length rings = subst (λ (n : ℕ). c.loop-place.place < n) c.ring_count-place-end.ensures.count c.loop-place-test.true in
    let told = c.is_in_ring.ensures ∙ ap (is_in_ring m c.args.ring.now) c.anchor_of.ensures.value in
    c.in_ok-push.ensures.items ∙ ap (λ (l : List Bool). l ++ c.is_in_ring.result ∷ []) c.loop-place.invariant
    ∙ ap (λ (x : Bool). map (λ (r : Ring). is_in_ring m c.args.ring.now (anchor_of r)) (take c.loop-place.place rings) ++ x ∷ []) told
    ∙ told-push (λ (r : Ring). is_in_ring m c.args.ring.now (anchor_of r)) rings c.loop-place.place [] within

pub returns : goal.returns
returns g c =
    let m = g.M.MapView.map c.args.map.now in
    let rings = rings_at c.args.face.now (g.M.MapView.rings c.args.map.now) in
    let past = subst (λ (n : ℕ). n ≤ c.loop-place.place) c.ring_count-place-end.ensures.count c.loop-place-test.false in
    c.loop-place.invariant ∙ ap (map (λ (r : Ring). is_in_ring m c.args.ring.now (anchor_of r))) (take_all c.loop-place.place rings past)
