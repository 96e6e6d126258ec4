use Rattle.std.proofs.Common.{◌≡◌, ◌∙◌, refl, sym, ap, length, not, Some, slice_get}
use Rattle.std.specs.Prelude.{option_map}
use Rattle.std.proofs.lemmas.Option.{slice_get_read}
use Rattle.cad_map.proofs.CallerLemmas.{Contains-at}
use Rattle.cad_files.specs.Corners.{keeps_face_among}
use Rattle.cad_files.proofs.NextSides.{keeps-next, next-within, find-here, find-later}
use Rattle.cad_files.proofs.labels.first_other_label.Goals.{After-is_same_face}
use Rattle.cad_files.proofs.labels.first_other_label.Goals as goal

-- the side at the place
at : (c : goal.After-is_same_face) → slice_get c.args.sides.now c.loop-i.i ≡ Some c.index-sides-i.result
at c = slice_get_read c.args.sides.now (length c.args.sides.now) c.loop-i.i c.index-sides-i.result refl c.loop-i-test.true c.index-sides-i.is

-- keeps its face where the side that follows has the same one
keeps : (c : goal.After-is_same_face) → keeps_face_among c.args.sides.now c.index-sides-i.result ≡ c.is_same_face.result
keeps c =
    let sides = c.args.sides.now in
    let s = c.index-sides-i.result in
    let t = c.index-sides-side.result in
    let there = Contains-at sides c.loop-i.i s (at c) in
    let next = slice_get_read sides (length sides) s.next t refl (next-within sides c.requires.linked s there) c.index-sides-side.is in
    keeps-next sides c.requires.once c.requires.linked s t there next ∙ sym c.is_same_face.ensures

pub returns-then-not-is_same_face : goal.returns-then-not-is_same_face
returns-then-not-is_same_face c =
    let p = (goal.at.returns-then-not-is_same_face c).After-is_same_face in
    let found = c.loop-i.invariant ∙ find-here (λ u. not (keeps_face_among c.args.sides.now u)) c.args.sides.now c.loop-i.i c.index-sides-i.result (at p) (ap not (keeps p ∙ c.if-not-is_same_face.true)) in
    ap (option_map (λ u. u.string)) (sym found)

pub loop-i-preserved : goal.loop-i-preserved
loop-i-preserved c =
    let p = (goal.at.loop-i-preserved c).After-is_same_face in
    c.loop-i.invariant ∙ find-later (λ u. not (keeps_face_among c.args.sides.now u)) c.args.sides.now c.loop-i.i c.index-sides-i.result (at p) (ap not (keeps p ∙ c.if-not-is_same_face.false))
