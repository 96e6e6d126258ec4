use Rattle.std.proofs.Common.{refl, sym, ap, subst, ◌≡◌, ◌∙◌, ◌*◌, Bool, true, false, true≢false, [], ◌∷◌, ◌||◌, length, Some}
use Rattle.std.proofs.lemmas.List.Folds.{list_any-append}
use Rattle.std.specs.List.{Contains}
use Rattle.cad_rings.specs.Cycle.{Side, is_side, has_side, sides_of}
use Rattle.cad_rings.proofs.CallerLemmas.{is_side-same}
use Rattle.cad_map.specs.Chain.{leaving}
use Rattle.cad_map.specs.Walk.{walking}
use Rattle.cad_map.proofs.Boundaries.FacesBeside.{has_side-Contains, Contains-has_side}
use Rattle.cad_map.proofs.Boundaries.RingsOfMap.{whole_valid}
use Rattle.cad_map.proofs.Walks.RingsFrom.{walked-from, walked-on_ring, walked-round, in_one_ring, in_two_rings, ring-of_corner}
use Rattle.cad_map.proofs.corner.are_in_one_ring.Goals.{After-next}
use Rattle.cad_map.proofs.corner.are_in_one_ring.Goals as goal

pub loop-from-init : goal.loop-from-init
loop-from-init g c = refl

pub loop-from-preserved : goal.loop-from-preserved
loop-from-preserved g c =
    let last = leaving c.args.last.now in
    list_any-append (is_side last) c.loop-from.yielded ((c.in-Some.from, c.in-Some.to) ∷ [])
    ∙ (λ i. c.loop-from.invariant i || ((sym c.leaves_by.ensures ∙ c.if-leaves_by.false) i || false))

-- it stood at the side that leaves the first corner
stands : (g : _) (c : goal.After-next g) → walking g.M.MapView.map g.M.MapView.view_next c.into_iter-from-iterator.result
    ≡ record { map = g.M.MapView.map c.args.map.now; follower = g.M.MapView.view_next c.args.map.now; first = leaving c.args.first.now; most = 2 * length (g.M.MapView.map c.args.map.now).strings; at = Some (leaving c.args.first.now) }
stands g c =
    let m = g.M.MapView.map c.args.map.now in
    ap (walking g.M.MapView.map g.M.MapView.view_next) c.into_iter-from-iterator.ensures.into_iter_gives ∙ c.from-from-items.ensures
    ∙ ap (λ (s : Side). record { map = m; follower = g.M.MapView.view_next c.args.map.now; first = s; most = 2 * length m.strings; at = Some s }) (ap leaving c.first.view_is)

pub returns-then-leaves_by : goal.returns-then-leaves_by
returns-then-leaves_by g c = λ face h.
    let m = g.M.MapView.map c.args.map.now in
    let whole = whole_valid m c.requires in
    let first = leaving c.args.first.now in
    let ring = ring-of_corner m whole face c.args.first.now h in
    let on = walked-from m whole face first ring.0 ring.1 ring.2 (walking g.M.MapView.map g.M.MapView.view_next) (g.M.MapView.view_next c.args.map.now) c.into_iter-from-iterator.result c.loop-from.from-iterator
    (stands g (goal.at.returns-then-leaves_by g c).After-next) c.loop-from.yielded c.loop-from.yielded_by in
    let side : Side = (c.in-Some.from, c.in-Some.to) in
    let goes = (rw c.in-Some.is at c.next.ensures.steps).goes_on in
    let has = walked-on_ring m whole face first ring.0 ring.1 ring.2 c.loop-from.yielded (walking g.M.MapView.map g.M.MapView.view_next c.loop-from.from-iterator) side _ on goes in
    let met : leaving c.args.last.now ≡ side = is_side-same (leaving c.args.last.now) side (sym c.leaves_by.ensures ∙ c.if-leaves_by.true) in
    sym (in_one_ring m whole face first ring.0 ring.1 ring.2 (leaving c.args.last.now) (subst (Contains (sides_of ring.0)) (sym met) has))

pub returns : goal.returns
returns g c = λ face h.
    let m = g.M.MapView.map c.args.map.now in
    let whole = whole_valid m c.requires in
    let last = leaving c.args.last.now in
    let ring = ring-of_corner m whole face c.args.first.now h in
    let on = walked-from m whole face (leaving c.args.first.now) ring.0 ring.1 ring.2 (walking g.M.MapView.map g.M.MapView.view_next) (g.M.MapView.view_next c.args.map.now) c.into_iter-from-iterator.result c.loop-from.from-iterator
    (stands g (goal.at.returns g c).After-next) c.loop-from.yielded c.loop-from.yielded_by in
    let none = rw c.in-None.is at c.next.ensures.steps in
    let given = walked-round m whole face (leaving c.args.first.now) ring.0 ring.1 ring.2 c.loop-from.yielded (walking g.M.MapView.map g.M.MapView.view_next c.loop-from.from-iterator) on none.first.0 last in
    sym (in_two_rings m whole face (leaving c.args.first.now) ring.0 ring.1 ring.2 last
    (by (has_side last (sides_of ring.0)) refl (λ there. Contains-has_side last c.loop-from.yielded (given (has_side-Contains last (sides_of ring.0) there))) c.loop-from.invariant))
  where
    by : {s t : Bool} (b : Bool) → s ≡ b → (s ≡ true → t ≡ true) → t ≡ false → s ≡ false
    by true is given missed = absurd (true≢false (sym (given is) ∙ missed))
    by false is given missed = is
