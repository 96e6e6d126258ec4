use Rattle.std.proofs.Common.{◌≡◌, sym, ap, ◌∙◌, [], ◌∷◌, ◌++◌, Bool, not}
use Rattle.cad_rings.specs.Cycle.{has_side, sides_of}
use Rattle.cad_map.specs.declared.boundary.Boundary.{Boundary}
use Rattle.cad_map.specs.Chain.{leaving}
use Rattle.cad_map.specs.Division.{hole_placed}
use Rattle.cad_edit.proofs.PlacedSoFar.{placed-kept, placed-left_out}
use Rattle.cad_edit.proofs.edits.divide.others_placed.Goals.{then-not-has_side+in_ok-hole_placed+in_ok-push, else-not-has_side}
use Rattle.cad_edit.proofs.edits.divide.others_placed.Goals as goal

pub loop-boundary-preserved : goal.loop-boundary-preserved
loop-boundary-preserved c =
    let b = c.boundary-item.result in
    let lent = c.boundaries-boundary-items.ensures in
    let place = hole_placed c.args.map.now c.args.face.now c.args.new.now c.args.ring.now in
    let test : Boundary → Bool = λ b. not (has_side (leaving c.args.corner.now) (sides_of b.ring)) in
    let same : not c.has_side.result ≡ test b = ap not (c.has_side.ensures ∙ ap (λ k. has_side (leaving k) (sides_of b.ring)) c.corner.view_is) in
    elim c.if-not-has_side.branch [
      | then-not-has_side+in_ok-hole_placed+in_ok-push w ↦
          ap (λ v. v.items) w.placed-is ∙ w.in_ok-push.ensures.items ∙ (λ j. c.loop-boundary.invariant j ++ w.in_ok-hole_placed.ensures j ∷ [])
          ∙ sym (placed-kept _ _ lent c.loop-boundary.boundary-index b c.loop-boundary-test.true c.boundary-item.is test place (sym same ∙ ap not w.if-not-has_side.true))
      | else-not-has_side w ↦
          ap (λ v. v.items) w.placed-is ∙ c.loop-boundary.invariant
          ∙ sym (placed-left_out _ _ lent c.loop-boundary.boundary-index b c.loop-boundary-test.true c.boundary-item.is test place (sym same ∙ ap not w.if-not-has_side.false))
    ]
