use Rattle.std.proofs.Common.{◌≡◌, ◌<◌, ◌≤◌, ◌∙◌, sym, ap, subst, ℕ, suc, List, ◌∷◌, [], ◌++◌, take, drop, length, drop-cons, arith}
use Rattle.std.proofs.lemmas.List.{take_more, take_all, take-append-drop}
use Rattle.cad_rings.specs.Cycle.{Ring}
use Rattle.cad_views.specs.Cut.{AreCutFrom, HasTwoEndsEach}
use Rattle.cad_views.specs.Walked.{IsWalked}
use Rattle.cad_views.proofs.CutFacts.{walked-none, walked-all, front-apart, last-two}
use Rattle.cad_views.proofs.cut.cut_ring.Goals as goal

pub loop-place-init : goal.loop-place-init
loop-place-init c = rw (c.new-pieces.ensures.items, c.with_hasher-path.ensures.empty) walked-none

pub walk_to-requires : goal.walk_to-requires
walk_to-requires c =
    let points = c.points-points.result.now in
    let place = c.loop-place.place in
    let p = c.index-points-place.result in
    let e : points ≡ c.args.ring.now = c.points-points.ensures in
    let within : place < length points = let k = ap (λ (l : List ℕ). length l) e in let v = c.len-place-end.ensures.value in omega arith in
    let parts : points ≡ take place points ++ p ∷ drop (suc place) points =
    sym (take-append-drop place points) ∙ ap (λ (l : List ℕ). take place points ++ l) (drop-cons points place p within ∙ ap (λ (q : ℕ). q ∷ drop (suc place) points) (sym c.index-points-place.is)) in
    (take place points, c.loop-place.invariant, front-apart points (take place points) p (drop (suc place) points) parts (subst HasTwoEndsEach (sym e) c.requires))

pub loop-place-preserved : goal.loop-place-preserved
loop-place-preserved c =
    let points = c.points-points.result.now in
    let place = c.loop-place.place in
    let p = c.index-points-place.result in
    let within : place < length points = let k = ap (λ (l : List ℕ). length l) c.points-points.ensures in let v = c.len-place-end.ensures.value in omega arith in
    subst (λ (done : List ℕ). IsWalked done c.walk_to.new.path.keys c.walk_to.new.pieces.items)
    (sym (take_more points place p within ∙ ap (λ (q : ℕ). take place points ++ q ∷ []) (sym c.index-points-place.is)))
    (c.in_ok-walk_to.ensures (take place points) c.loop-place.invariant)

pub from_points-requires : goal.from_points-requires
from_points-requires c =
    let points = c.points-points.result.now in
    let past : length points ≤ c.loop-place.place = let k = ap (λ (l : List ℕ). length l) c.points-points.ensures in let v = c.len-place-end.ensures.value in omega arith in
    let walked = subst (λ (done : List ℕ). IsWalked done c.loop-place.path.keys c.loop-place.pieces.items) (take_all c.loop-place.place points past ∙ c.points-points.ensures) c.loop-place.invariant in
    let two = c.len-place-end.ensures.at_least_two in
    let v = c.len-place-end.ensures.value in
    subst (λ (l : List ℕ). 2 ≤ length l) (sym c.as_slice.ensures.keys) (last-two c.args.ring.now c.loop-place.path.keys c.loop-place.pieces.items walked (omega arith) c.requires)

pub returns : goal.returns
returns c =
    let points = c.points-points.result.now in
    let past : length points ≤ c.loop-place.place = let k = ap (λ (l : List ℕ). length l) c.points-points.ensures in let v = c.len-place-end.ensures.value in omega arith in
    let walked = subst (λ (done : List ℕ). IsWalked done c.loop-place.path.keys c.loop-place.pieces.items) (take_all c.loop-place.place points past ∙ c.points-points.ensures) c.loop-place.invariant in
    let at_least = c.len-place-end.ensures.at_least_two in
    let v = c.len-place-end.ensures.value in
    let two = last-two c.args.ring.now c.loop-place.path.keys c.loop-place.pieces.items walked (omega arith) c.requires in
    subst (λ (ps : List Ring). AreCutFrom (c.args.ring.now ∷ []) ps)
    (sym (c.in_ok-push.ensures.items ∙ ap (λ (r : Ring). c.loop-place.pieces.items ++ r ∷ []) (c.in_ok-from_points.ensures ∙ c.as_slice.ensures.keys)))
    (walked-all c.args.ring.now c.loop-place.path.keys c.loop-place.pieces.items walked two)
