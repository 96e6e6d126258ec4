use Rattle.std.proofs.Common.{◌∙◌, sym, ap, subst}
use Rattle.cad_rings.specs.Cycle.{opposite}
use Rattle.cad_rows.specs.declared.names.Face.{Face}
use Rattle.cad_map.specs.Views.{HasSide}
use Rattle.cad_map.specs.Boundaries.{is_face}
use Rattle.cad_map.proofs.CallerLemmas.{is_face-refl, is_face-same}
use Rattle.cad_laws.proofs.CallerLemmas.{one-face}
use Rattle.edit_records.proofs.TouchedLists.{no-side}
use Rattle.edit_records.proofs.touched.is_behind.Goals as goal

pub returns-in-Some-clause-some : goal.returns-in-Some-clause-some
returns-in-Some-clause-some g c has =
    let m = g.M.MapView.map c.args.map.now in
    let face = c.args.face.now in
    let same = one-face m c.requires face c.in-Some.other (c.args.to, c.args.from) has c.in-Some.ensures.some in
    c.is_face.ensures ∙ ap (is_face face) (sym same) ∙ is_face-refl face

pub returns-in-None-clause-some : goal.returns-in-None-clause-some
returns-in-None-clause-some g c has =
    absurd (no-side (g.M.MapView.map c.args.map.now) c.args.face.now (c.args.to, c.args.from) c.in-None.ensures.none has)

pub returns-in-Some-clause-only : goal.returns-in-Some-clause-only
returns-in-Some-clause-only g c same =
    let m = g.M.MapView.map c.args.map.now in
    let is = is_face-same c.args.face.now c.in-Some.other (sym c.is_face.ensures ∙ same) in
    subst (λ (f : Face). HasSide m f (opposite (c.args.from, c.args.to))) (sym is) c.in-Some.ensures.some
