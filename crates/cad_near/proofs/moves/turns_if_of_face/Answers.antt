use Rattle.std.proofs.Common.{sym, subst, ◌∙◌}
use Rattle.cad_map.specs.Touched.{Moved}
use Rattle.cad_map.specs.Views.{HasSide}
use Rattle.cad_near.proofs.MovedRings.{other-face}
use Rattle.cad_near.proofs.moves.turns_if_of_face.Goals as goal

pub returns-then-not-is_face : goal.returns-then-not-is_face
returns-then-not-is_face g c = λ t b there own has.
    let m = g.M.MapView.map c.args.map.now in
    let told = rw c.in-Some.is at c.face_of.ensures.some in
    let has_left = subst (λ (v : Moved). HasSide m c.in-Some.left (v.point, c.args.to)) c.moved.view_is told in
    absurd (other-face m c.requires.whole c.args.moved.now.point c.args.face.now c.in-Some.left c.args.to has_left (sym c.is_face.ensures ∙ c.if-not-is_face.true) b there own has)

pub returns : goal.returns
returns g c = λ same. c.turns_as_before.ensures same c.args.face.now
