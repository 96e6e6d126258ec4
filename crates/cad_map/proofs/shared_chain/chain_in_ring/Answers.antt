use Rattle.std.proofs.Common.{◌≡◌, refl, sym, subst, ap, ◌∙◌, Bool, true, false, [], ◌∷◌, Some, None}
use Rattle.std.specs.List.{list_any, Contains}
use Rattle.std.proofs.lemmas.List.Folds.{list_any-append}
use Rattle.cad_rings.specs.Cycle.{Side, sides_of}
use Rattle.cad_map.specs.Rings.{ring_at}
use Rattle.cad_map.specs.Steps.{next_side, chain_along, is_before_chain, IsFoundAlong}
use Rattle.std.specs.Prelude.{◌||◌, if◌then◌else◌}
use Rattle.cad_map.specs.Walk.{walking, IsOnRing}
use Rattle.cad_map.proofs.Boundaries.RingsOfMap.{whole_valid}
use Rattle.cad_map.proofs.Walks.Walked.{walked, walked-side, walked-all, side-in_all}
use Rattle.cad_map.proofs.shared_chain.chain_in_ring.Goals.{After-next, In-Some}
use Rattle.cad_map.proofs.shared_chain.chain_in_ring.Goals as goal

-- the walk is on the ring
on : (g : _) (c : goal.After-next g) → IsOnRing (g.M.MapView.map c.args.map.now) (ring_at (g.M.MapView.rings c.args.map.now) c.args.face.now c.args.place) c.loop-a.yielded (walking g.M.MapView.map g.M.MapView.view_next c.loop-a.a-iterator)
on g c =
    let told = c.of_ring-walk.ensures in
    walked (g.M.MapView.map c.args.map.now) (g.M.MapView.rings c.args.map.now) (whole_valid (g.M.MapView.map c.args.map.now) c.requires.valid) told.canonical_order told.two c.args.face.now c.args.place c.requires.there
    (walking g.M.MapView.map g.M.MapView.view_next) c.of_ring-walk.result c.into_iter-a-iterator.result c.into_iter-a-iterator.ensures.into_iter_gives told.along c.loop-a.yielded c.loop-a.a-iterator c.loop-a.yielded_by

-- the side that it gives is one of the ring
there : (g : _) (c : goal.In-Some g) → Contains (sides_of (ring_at (g.M.MapView.rings c.args.map.now) c.args.face.now c.args.place)) (c.in-Some.a, c.in-Some.b)
there g c =
    let m = g.M.MapView.map c.args.map.now in
    let told = c.of_ring-walk.ensures in
    let goes = (rw c.in-Some.is at c.next.ensures.steps).goes_on in
    walked-side m (g.M.MapView.rings c.args.map.now) (whole_valid m c.requires.valid) told.canonical_order told.two c.args.face.now c.args.place c.requires.there
    c.loop-a.yielded (walking g.M.MapView.map g.M.MapView.view_next c.loop-a.a-iterator) (c.in-Some.a, c.in-Some.b) _ (on g c.before) goes

pub chain_after-requires-clause-there : goal.chain_after-requires-clause-there
chain_after-requires-clause-there g c =
    let m = g.M.MapView.map c.args.map.now in
    let told = c.of_ring-walk.ensures in
    side-in_all m (g.M.MapView.rings c.args.map.now) (whole_valid m c.requires.valid) told.canonical_order told.two c.args.face.now c.args.place c.requires.there
    (c.in-Some.a, c.in-Some.b) (there g (goal.at.chain_after-requires-clause-there g c).In-Some)

-- where there is no value, the test fails
if_none : {X : Type 0} (b : Bool) (x : X) → None ≡ (if b then Some x else None) → b ≡ false
if_none true x is = cc
if_none false x is = refl

pub loop-a-preserved : goal.loop-a-preserved
loop-a-preserved g c =
    let m = g.M.MapView.map c.args.map.now in
    let side : Side = (c.in-Some.a, c.in-Some.b) in
    let test = is_before_chain m c.args.other.now c.args.count in
    let chain = chain_along (next_side m) (next_side m side) c.args.count in
    let passed = if_none (test side) chain (sym c.in_default.is ∙ c.chain_after.ensures) in
    list_any-append test c.loop-a.yielded (side ∷ []) ∙ (λ i. c.loop-a.invariant i || (passed i || false))

-- where the test passes, the value is this one
if_some : {X : Type 0} (b : Bool) (x y : X) → Some y ≡ (if b then Some x else None) → (b ≡ true) × (y ≡ x)
if_some true x y is = (refl, cc)
if_some false x y is = cc

pub returns-in-Some-chain_after-clause-some : goal.returns-in-Some-chain_after-clause-some
returns-in-Some-chain_after-clause-some g c =
    let m = g.M.MapView.map c.args.map.now in
    let side : Side = (c.in-Some.a, c.in-Some.b) in
    let chain = chain_along (next_side m) (next_side m side) c.args.count in
    let is = if_some (is_before_chain m c.args.other.now c.args.count side) chain c.in-Some-chain_after.chain c.in-Some-chain_after.ensures in
    subst (IsFoundAlong m c.args.other.now c.args.count (ring_at (g.M.MapView.rings c.args.map.now) c.args.face.now c.args.place)) (sym is.1)
    (side, there g (goal.at.returns-in-Some-chain_after-clause-some g c).In-Some, is.0, refl)

pub returns-clause-none : goal.returns-clause-none
returns-clause-none g c =
    let m = g.M.MapView.map c.args.map.now in
    let bs = g.M.MapView.rings c.args.map.now in
    let told = c.of_ring-walk.ensures in
    let none = rw c.in-None.is at c.next.ensures.steps in
    let all = walked-all m bs (whole_valid m c.requires.valid) told.canonical_order told.two c.args.face.now c.args.place c.requires.there
    c.loop-a.yielded (walking g.M.MapView.map g.M.MapView.view_next c.loop-a.a-iterator) (on g (goal.at.returns-clause-none g c).After-next) none.first.0 in
    let after = list_any (is_before_chain m c.args.other.now c.args.count) in
    ap (λ (b : Bool). b || after (sides_of (ring_at bs c.args.face.now c.args.place))) (sym c.runs_round.ensures ∙ c.if-runs_round.false) ∙ ap after (sym all) ∙ c.loop-a.invariant
