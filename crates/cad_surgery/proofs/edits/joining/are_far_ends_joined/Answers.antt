use Rattle.std.proofs.Common.{◌∙◌, sym, subst}
use Rattle.std.specs.Prelude.{IfSome, IfNone}
use Rattle.cad_rings.specs.Cycle.{Side}
use Rattle.cad_map.specs.Views.{HasSide, IsNoSide}
use Rattle.cad_map.proofs.CallerLemmas.{whole_valid}
use Rattle.cad_surgery.proofs.FarEnds.{told-apart, told-joined}
use Rattle.cad_surgery.proofs.edits.joining.are_far_ends_joined.Goals as goal

pub returns-clause-apart : goal.returns-clause-apart
returns-clause-apart g c none =
    let m = g.M.MapView.map c.args.map.now in
    told-apart m (whole_valid m c.requires.valid) c.args.point c.two_at.result.0.now
    c.two_at.result.1.now c.two_at.ensures c.face_of.result
    (subst (λ (s : Side). IfNone c.face_of.result (IsNoSide m s)) (λ i. (
      c.far_end.ensures i,
      c.far_end-2.ensures i,
    )) c.face_of.ensures.none)
    (sym c.is_some.ensures ∙ none)

pub returns-clause-joined : goal.returns-clause-joined
returns-clause-joined g c some =
    let m = g.M.MapView.map c.args.map.now in
    told-joined m (whole_valid m c.requires.valid) c.args.point c.two_at.result.0.now
    c.two_at.result.1.now c.two_at.ensures c.face_of.result
    (subst (λ (s : Side). IfSome c.face_of.result (λ f. HasSide m f s)) (λ i. (
      c.far_end.ensures i,
      c.far_end-2.ensures i,
    )) c.face_of.ensures.some)
    (sym c.is_some.ensures ∙ some)
