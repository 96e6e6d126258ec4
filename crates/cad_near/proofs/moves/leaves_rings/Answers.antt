use Rattle.std.proofs.Common.{◌≡◌, Bool, List, true, false, true≢false, sym, subst, ap, ◌∙◌}
use Rattle.std.specs.List.{AllByRecursion}
use Rattle.cad_map.specs.Map.{position_of}
use Rattle.cad_map.specs.Touched.{Moved}
use Rattle.cad_near.specs.declared.rays.Ray.{Ray}
use Rattle.cad_near.specs.Moves.{GoesClear, IsPast, LeavesRings, TurnAlong}
use Rattle.cad_near.specs.Rays.{AreRaysOf}
use Rattle.cad_near.proofs.MovedRings.{leaves-rings}
use Rattle.cad_near.proofs.moves.leaves_rings.Goals as goal
use Rattle.cad_near.proofs.moves.leaves_rings.Goals.{After-turn_as_before}

-- where it went past all points, and each ring turns along its rays as before, clear or not
leaves : (g : _) (c : After-turn_as_before g) (clear : Bool) → (clear ≡ true → GoesClear (g.M.MapView.map c.args.map.now) c.args.face.now c.args.moved.now)
    → AllByRecursion (λ (r : Ray). TurnAlong (g.M.MapView.map c.args.map.now) c.args.face.now c.args.moved.now clear r.far) c.rays_at-rays.result.items
    → LeavesRings (g.M.MapView.map c.args.map.now) c.args.face.now c.args.moved.now
leaves g c clear goes turn =
    let m = g.M.MapView.map c.args.map.now in
    let v = c.args.moved.now in
    let rays = c.rays_at-rays.result.items in
    let at = c.position-at.result in
    leaves-rings m v rays (subst (λ (w : Moved). AreRaysOf m w.point rays) c.moved.view_is c.rays_at-rays.ensures)
    at (c.position-at.ensures ∙ ap (λ (w : Moved). position_of m w.point) c.moved.view_is) c.args.face.now c.requires.whole clear goes
    (λ p h other. subst (λ (rs : List Ray). IsPast m c.args.face.now v at rs (record { point = p.number; position = p.position })) c.as_slice.ensures.value
    (c.go_past.ensures c.if-not-go_past.false p.number p.position (c.requires.held.points p h) other))
    turn

pub returns-then-turn_as_before : goal.returns-then-turn_as_before
returns-then-turn_as_before g c = λ _.
    let m = g.M.MapView.map c.args.map.now in
    leaves g (goal.at.returns-then-turn_as_before g c).After-turn_as_before false (λ is. absurd (true≢false (sym is)))
    (subst (AllByRecursion (λ (r : Ray). TurnAlong m c.args.face.now c.args.moved.now false r.far)) c.as_slice-2.ensures.value (c.turn_as_before.ensures c.if-turn_as_before.true))

pub returns : goal.returns
returns g c = λ left.
    let m = g.M.MapView.map c.args.map.now in
    leaves g (goal.at.returns g c).After-turn_as_before true (λ _. c.leaves_anchor.ensures.clear left)
    (subst (AllByRecursion (λ (r : Ray). TurnAlong m c.args.face.now c.args.moved.now true r.far)) c.as_slice-3.ensures.value (c.leaves_anchor.ensures.turn left))
