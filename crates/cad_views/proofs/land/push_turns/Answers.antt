use Rattle.std.proofs.Common.{◌≡◌, ◌<◌, ◌≤◌, ◌∙◌, subst, ℕ, Bool, List, ◌++◌, ◌∷◌, [], length, get_or, arith, ap, if◌then◌else◌}
use Rattle.cad_views.proofs.LandFacts.{followed-first, followed-next, followed-last}
use Rattle.cad_views.proofs.land.push_turns.Goals as goal

pub bounds-points-0 : goal.bounds-points-0
bounds-points-0 c =
    let k = ap (λ (l : List ℕ). length l) c.points-points.ensures in
    let two = c.len-count.ensures.at_least_two in
    let v = c.len-count.ensures.value in
    omega arith

pub bounds-points-1 : goal.bounds-points-1
bounds-points-1 c =
    let k = ap (λ (l : List ℕ). length l) c.points-points.ensures in
    let two = c.len-count.ensures.at_least_two in
    let v = c.len-count.ensures.value in
    omega arith

pub loop-place-init : goal.loop-place-init
loop-place-init c =
    let a = c.index-points-0.result in
    let b = c.index-points-1.result in
    let two : 2 ≤ length c.args.ring.now = let least = c.len-count.ensures.at_least_two in let v = c.len-count.ensures.value in omega arith in
    followed-first c.args.map.now c.args.ring.now a b c.position-before.result c.position-at.result c.args.turns.now.items two
    (subst (λ (ps : List ℕ). a ≡ get_or ps 0 a) c.points-points.ensures c.index-points-0.is)
    (subst (λ (ps : List ℕ). b ≡ get_or ps 1 b) c.points-points.ensures c.index-points-1.is)
    c.position-before.ensures c.position-at.ensures

pub loop-place-preserved : goal.loop-place-preserved
loop-place-preserved c =
    let so_far = c.loop-place in
    let two : 2 ≤ length c.args.ring.now = let least = c.len-count.ensures.at_least_two in let v = c.len-count.ensures.value in omega arith in
    let within : so_far.place < length c.args.ring.now = let test = c.loop-place-test.true in let v = c.len-count.ensures.value in omega arith in
    followed-next c.args.map.now c.args.ring.now so_far.place c.turned_at.result so_far.before so_far.at c.position-after.result c.args.turns.now.items so_far.turns.items
    c.push_wanted.new.listed.items two within so_far.invariant c.turned_at.ensures c.position-after.ensures
    (c.in_ok-push_wanted.ensures ∙ ap (λ (t : Bool). so_far.turns.items ++ (if t then so_far.at ∷ [] else [])) c.is_turn-wanted.ensures)

pub returns : goal.returns
returns c =
    let so_far = c.loop-place in
    let two : 2 ≤ length c.args.ring.now = let least = c.len-count.ensures.at_least_two in let v = c.len-count.ensures.value in omega arith in
    let past : length c.args.ring.now ≤ so_far.place = let test = c.loop-place-test.false in let v = c.len-count.ensures.value in omega arith in
    followed-last c.args.map.now c.args.ring.now so_far.place so_far.before so_far.at c.args.turns.now.items so_far.turns.items two past so_far.invariant
