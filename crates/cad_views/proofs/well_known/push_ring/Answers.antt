use Rattle.std.proofs.Common.{◌≡◌, ◌≤◌, ◌∙◌, ap, ℕ, List, [], ◌∷◌, ◌++◌, take, length, append_assoc, arith}
use Rattle.cad_views.specs.WellKnown.{coordinates_along, ring_text}
use Rattle.cad_views.proofs.JoinFacts.{first-is}
use Rattle.cad_views.proofs.well_known.push_ring.Goals as goal

pub bounds-points-0 : goal.bounds-points-0
bounds-points-0 g c =
    let k = ap (λ (l : List ℕ). length l) c.points-points.ensures in
    let two = c.len.ensures.at_least_two in
    let v = c.len.ensures.value in
    omega arith

pub returns : goal.returns
unfolding ring_text
returns g c =
    let m = g.M.MapView.map c.args.map.now in
    let ring = c.args.ring.now in
    let text = c.args.text.now.items in
    let e : c.points-points.result.now ≡ ring = c.points-points.ensures in
    let two : 2 ≤ length c.points-points.result.now = let k = ap (λ (l : List ℕ). length l) e in let a = c.len.ensures.at_least_two in let v = c.len.ensures.value in omega arith in
    let first : c.index-points-0.result ∷ [] ≡ take 1 ring = first-is c.points-points.result.now c.index-points-0.result two c.index-points-0.is ∙ ap (take 1) e in
    let closed : c.as_slice.result.now ≡ ring ++ take 1 ring =
    c.as_slice.ensures.value ∙ c.in_ok-push.ensures.items ∙ ap (λ (l : List ℕ). l ++ c.index-points-0.result ∷ []) (c.in_ok-extend_from_slice.ensures.items ∙ ap (λ (l : List ℕ). l ++ c.points-points.result.now) c.in_ok-closed.ensures.items ∙ e)
    ∙ ap (λ (l : List ℕ). ring ++ l) first in
    let along = coordinates_along m (ring ++ take 1 ring) in
    c.in_ok-push-3.ensures.items
    ∙ ap (λ (l : List ℕ). l ++ 41 ∷ []) (c.in_ok-push_along.ensures ∙ (λ i. c.in_ok-push-2.ensures.items i ++ coordinates_along m (closed i)))
    ∙ append_assoc (text ++ 40 ∷ []) along (41 ∷ []) ∙ append_assoc text (40 ∷ []) (along ++ 41 ∷ [])
