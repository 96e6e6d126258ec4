use Rattle.std.proofs.Common.{◌≡◌, ℕ, sym, subst, ap, ◌∙◌, [], ◌∷◌, ◌++◌, map, min, fold, ℤ, ◌+ℤ◌, to_z, of_z, to_z-of_z, FitsSigned, length, ◌≤◌, arith}
use Rattle.std.specs.Int.{w128}
use Rattle.std.proofs.lemmas.Int.{ints}
use Rattle.std.specs.Prelude.{unsigned_abs}
use Rattle.geo_exact.specs.Position.{Position, OnTheMap}
use Rattle.geo_exact.specs.Measure.{doubled_area, sum_over, measure_limit}
use Rattle.geo_exact.specs.MeasureLaws.{doubled_area-bounded}
use Rattle.cad_rings.specs.Cycle.{Side, placed}
use Rattle.cad_map.specs.Map.{Map, position_of}
use Rattle.cad_map.specs.Touched.{Moved}
use Rattle.cad_map.specs.Walk.{walking, IsOnRing}
use Rattle.cad_map.proofs.CallerLemmas.{few-from, walked-from, placed-fits, sum-bounded, sum-fits, least-more, sum-more, position-on_map}
use Rattle.cad_near.specs.Moves.{position_before, lay}
use Rattle.cad_near.proofs.MovedRings.{HasRing, before-on_map, ring-with, ring_from, round-walked}
use Rattle.cad_near.proofs.rounds.round_along.Goals.{After-next, In-Some, After-of-area, After-of-area_before, After-get-in-loop-at}
use Rattle.cad_near.proofs.rounds.round_along.Goals as goal

-- the side that the walk begins with, and the ring that has it
abbrev side : (g : _) → goal.After-next g → Side
side g c = (c.args.from, c.args.to)

abbrev ring : (g : _) (c : goal.After-next g) → HasRing (g.M.MapView.map c.args.map.now) (side g c)
ring g c = ring-with (g.M.MapView.map c.args.map.now) (side g c) c.requires.side

-- the walk is on it
on : (g : _) (c : goal.After-next g) → IsOnRing (g.M.MapView.map c.args.map.now) (ring_from (g.M.MapView.map c.args.map.now) c.requires.whole (side g c) (ring g c)) c.loop-at.yielded (walking g.M.MapView.map g.M.MapView.view_next c.loop-at.at-iterator)
on g c =
    let m = g.M.MapView.map c.args.map.now in
    let r = ring g c in
    let stands = ap (walking g.M.MapView.map g.M.MapView.view_next) c.into_iter-at-iterator.ensures.into_iter_gives ∙ c.from-at-items.ensures in
    walked-from m c.requires.whole r.boundary.face (side g c) r.boundary.ring r.there r.has (walking g.M.MapView.map g.M.MapView.view_next) (g.M.MapView.view_next c.args.map.now)
    c.into_iter-at-iterator.result c.loop-at.at-iterator stands c.loop-at.yielded c.loop-at.yielded_by

few : (g : _) (c : goal.In-Some g) → length (c.loop-at.yielded ++ (c.in-Some.at, c.in-Some.end) ∷ []) ≤ 400000
few g c =
    let m = g.M.MapView.map c.args.map.now in
    let r = ring g c.before in
    let goes = (rw c.in-Some.is at c.next.ensures.steps).goes_on in
    few-from m c.requires.whole r.boundary.face (side g c.before) r.boundary.ring r.there r.has
    c.loop-at.yielded (walking g.M.MapView.map g.M.MapView.view_next c.loop-at.at-iterator) (c.in-Some.at, c.in-Some.end) _ (on g c.before) goes

-- with one side more each sum is that of one side more
more : (g : _) (c : goal.After-of-area g) → sum_over doubled_area (placed (position_of (g.M.MapView.map c.args.map.now)) (c.loop-at.yielded ++ (c.in-Some.at, c.in-Some.end) ∷ []))
    ≡ to_z w128 c.loop-at.area-bits +ℤ c.of-area.result
more g c =
    sum-more doubled_area (position_of (g.M.MapView.map c.args.map.now)) c.loop-at.yielded (c.in-Some.at, c.in-Some.end)
    ∙ (λ i. sym c.loop-at.invariant.area i +ℤ doubled_area (sym c.position-a.ensures i) (sym c.position-b.ensures i)) ∙ ap (λ (z : ℤ). to_z w128 c.loop-at.area-bits +ℤ z) (sym c.of-area.ensures.value)

-- where a point lay, by where it lies
lay-is : (m : Map) (v : Moved) (p : ℕ) (at now : Position) → now ≡ position_of m p → at ≡ lay v p now → at ≡ position_before (position_of m) v p
lay-is m v p at now is lies = lies ∙ ap (lay v p) is

more_before : (g : _) (c : goal.After-of-area_before g) → sum_over doubled_area (placed (position_before (position_of (g.M.MapView.map c.args.map.now)) c.args.moved.now) (c.loop-at.yielded ++ (c.in-Some.at, c.in-Some.end) ∷ []))
    ≡ to_z w128 c.loop-at.area_before-bits +ℤ c.of-area_before.result
more_before g c =
    let m = g.M.MapView.map c.args.map.now in
    let v = c.args.moved.now in
    let is = c.moved.view_is in
    let from = lay-is m v c.in-Some.at c.lay-a_before.result c.position-a.result c.position-a.ensures (c.lay-a_before.ensures ∙ ap (λ (w : Moved). lay w c.in-Some.at c.position-a.result) is) in
    let end = lay-is m v c.in-Some.end c.lay-b_before.result c.position-b.result c.position-b.ensures (c.lay-b_before.ensures ∙ ap (λ (w : Moved). lay w c.in-Some.end c.position-b.result) is) in
    sum-more doubled_area (position_before (position_of m) v) c.loop-at.yielded (c.in-Some.at, c.in-Some.end)
    ∙ (λ i. sym c.loop-at.invariant.area_before i +ℤ doubled_area (sym from i) (sym end i)) ∙ ap (λ (z : ℤ). to_z w128 c.loop-at.area_before-bits +ℤ z) (sym c.of-area_before.ensures.value)

-- a measure is what its bits stand for
read : (z : ℤ) → unsigned_abs z ≤ measure_limit → to_z w128 (of_z w128 z) ≡ z
read z small = let fits : FitsSigned w128 z = omega (arith, ints) in to_z-of_z fits

sum_fits : (g : _) (c : goal.After-of-area g) → length (c.loop-at.yielded ++ (c.in-Some.at, c.in-Some.end) ∷ []) ≤ 400000 → FitsSigned w128 (to_z w128 c.loop-at.area-bits +ℤ c.of-area.result)
sum_fits g c short =
    let m = g.M.MapView.map c.args.map.now in
    subst (FitsSigned w128) (more g c)
    (sum-fits m c.requires.whole.v1 doubled_area doubled_area-bounded (c.loop-at.yielded ++ (c.in-Some.at, c.in-Some.end) ∷ []) short)

before_fits : (g : _) (c : goal.After-of-area_before g) → length (c.loop-at.yielded ++ (c.in-Some.at, c.in-Some.end) ∷ []) ≤ 400000 → FitsSigned w128 (to_z w128 c.loop-at.area_before-bits +ℤ c.of-area_before.result)
before_fits g c short =
    let m = g.M.MapView.map c.args.map.now in
    let v = c.args.moved.now in
    let from = subst (λ (w : Moved). OnTheMap w.from) c.moved.view_is c.moved.invariant in
    subst (FitsSigned w128) (more_before g c)
    (placed-fits (position_before (position_of m) v) (before-on_map (position_of m) v from (position-on_map m c.requires.whole.v1))
    doubled_area doubled_area-bounded (c.loop-at.yielded ++ (c.in-Some.at, c.in-Some.end) ∷ []) short)

pub overflow_add-area : goal.overflow_add-area
overflow_add-area g c =
    let at = goal.at.overflow_add-area g c in
    rw (read c.of-area.result c.of-area.ensures.small) (sum_fits g at.After-of-area (few g at.In-Some))

pub overflow_add-area_before : goal.overflow_add-area_before
overflow_add-area_before g c =
    let at = goal.at.overflow_add-area_before g c in
    rw (read c.of-area_before.result c.of-area_before.ensures.small) (before_fits g at.After-of-area_before (few g at.In-Some))

next_area : (g : _) (c : goal.After-of-area g) → length (c.loop-at.yielded ++ (c.in-Some.at, c.in-Some.end) ∷ []) ≤ 400000
    → to_z w128 (of_z w128 (to_z w128 c.loop-at.area-bits +ℤ to_z w128 (of_z w128 c.of-area.result)))
    ≡ sum_over doubled_area (placed (position_of (g.M.MapView.map c.args.map.now)) (c.loop-at.yielded ++ (c.in-Some.at, c.in-Some.end) ∷ []))
next_area g c short = rw (read c.of-area.result c.of-area.ensures.small) (to_z-of_z (sum_fits g c short) ∙ sym (more g c))

next_before : (g : _) (c : goal.After-of-area_before g) → length (c.loop-at.yielded ++ (c.in-Some.at, c.in-Some.end) ∷ []) ≤ 400000
    → to_z w128 (of_z w128 (to_z w128 c.loop-at.area_before-bits +ℤ to_z w128 (of_z w128 c.of-area_before.result)))
    ≡ sum_over doubled_area (placed (position_before (position_of (g.M.MapView.map c.args.map.now)) c.args.moved.now) (c.loop-at.yielded ++ (c.in-Some.at, c.in-Some.end) ∷ []))
next_before g c short = rw (read c.of-area_before.result c.of-area_before.ensures.small) (to_z-of_z (before_fits g c short) ∙ sym (more_before g c))

-- the least first point with one side more is its own or the one before
next_least : (g : _) (c : goal.After-get-in-loop-at g) → fold min c.args.from (map (λ (s : Side). s.0) (c.loop-at.yielded ++ (c.in-Some.at, c.in-Some.end) ∷ [])) ≡ min c.loop-at.least c.in-Some.at
next_least g c = least-more c.args.from c.loop-at.yielded (c.in-Some.at, c.in-Some.end) ∙ ap (λ (n : ℕ). min n c.in-Some.at) (sym c.loop-at.invariant.least)

pub loop-at-preserved-then-get : goal.loop-at-preserved-then-get
loop-at-preserved-then-get g c =
    let at = goal.at.loop-at-preserved-then-get g c in
    let short = few g at.In-Some in
    record {
      area = next_area g at.After-of-area short;
      area_before = next_before g at.After-of-area_before short;
      least = omega (arith, c.if-get.true, c.get.ensures.value, c.get-in-loop-at.ensures.value, next_least g at.After-get-in-loop-at);
      few = short;
    }

pub loop-at-preserved : goal.loop-at-preserved
loop-at-preserved g c =
    let at = goal.at.loop-at-preserved g c in
    let short = few g at.In-Some in
    record {
      area = next_area g at.After-of-area short;
      area_before = next_before g at.After-of-area_before short;
      least = omega (arith, c.if-get.false, c.get.ensures.value, c.get-in-loop-at.ensures.value, next_least g at.After-get-in-loop-at);
      few = short;
    }

pub returns-clause-round : goal.returns-clause-round
returns-clause-round g c b there has =
    let m = g.M.MapView.map c.args.map.now in
    let walked = (goal.at.returns-clause-round g c).After-next in
    let none = rw c.in-None.is at c.next.ensures.steps in
    round-walked m c.requires.whole (side g walked) (ring g walked) c.loop-at.yielded
    (walking g.M.MapView.map g.M.MapView.view_next c.loop-at.at-iterator) (on g walked) none.first.0 c.args.moved.now
    (record { area = to_z w128 c.loop-at.area-bits; area_before = to_z w128 c.loop-at.area_before-bits; least = c.loop-at.least })
    c.loop-at.invariant.area c.loop-at.invariant.area_before c.loop-at.invariant.least b there has

pub returns-clause-small : goal.returns-clause-small
returns-clause-small g c =
    subst (λ (z : ℤ). unsigned_abs z ≤ 80000000000000000000000000) (sym c.loop-at.invariant.area)
    (sum-bounded (g.M.MapView.map c.args.map.now) c.requires.whole.v1 doubled_area doubled_area-bounded c.loop-at.yielded c.loop-at.invariant.few)
