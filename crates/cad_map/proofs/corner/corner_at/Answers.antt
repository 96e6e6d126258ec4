use Rattle.std.proofs.Common.{◌∙◌, ℕ, None, Some, [], ◌∷◌, refl, sym, subst}
use Rattle.std.proofs.lemmas.Option.{same_Some}
use Rattle.cad_rows.specs.declared.rows.StringRow.{StringRow}
use Rattle.cad_rings.specs.Surgery.{corner}
use Rattle.cad_map.specs.Choice.{MayBeChosen, IsFirst}
use Rattle.cad_map.specs.Map.{far_end}
use Rattle.cad_map.specs.Views.{HasSide, IsNoSide}
use Rattle.cad_map.proofs.Boundaries.FacesBeside.{is_face-same}
use Rattle.cad_map.proofs.Boundaries.RingsOfMap.{whole_valid}
use Rattle.cad_map.proofs.Ends.StringsTold.{told-is}
use Rattle.cad_map.proofs.Walks.FirstCorners.{first-no_side, first-other_face, first-one, first-other_way}
use Rattle.cad_map.proofs.corner.corner_at.Goals as goal

pub returns-in_err-from-clause-first : goal.returns-in_err-from-clause-first
returns-in_err-from-clause-first g c =
    let m = g.M.MapView.map c.args.map.now in
    let at = c.args.at in
    let strings = g.M.MapView.view_strings c.args.map.now at in
    λ from is.
    let told = told-is (λ (s : StringRow). far_end s at) (Some from) from strings c.args.place (sym is) refl in
    subst (IsFirst (MayBeChosen m c.args.face.now at c.args.towards (from ∷ []))) (sym c.from_residual.ensures)
    (first-no_side m (whole_valid m c.requires) c.args.face.now at c.args.towards from
    (subst (λ (p : ℕ). IsNoSide m (p, at)) told.2 (c.in_err-from.ensures.none told.0 told.1)))

pub returns-then-not-is_face-clause-first : goal.returns-then-not-is_face-clause-first
returns-then-not-is_face-clause-first g c =
    let m = g.M.MapView.map c.args.map.now in
    let at = c.args.at in
    λ from is.
    let same = same_Some c.in_ok-from.from from (sym c.in_ok-from.ensures.far ∙ is) in
    first-other_face m (whole_valid m c.requires) c.args.face.now at c.args.towards from c.in_ok-from.on_left
    (subst (λ (p : ℕ). HasSide m c.in_ok-from.on_left (p, at)) same c.in_ok-from.ensures.some)
    (sym c.is_face.ensures ∙ c.if-not-is_face.true)

pub returns-in_err-after-clause-first : goal.returns-in_err-after-clause-first
returns-in_err-after-clause-first g c =
    let m = g.M.MapView.map c.args.map.now in
    let at = c.args.at in
    λ from is.
    let same = same_Some c.in_ok-from.from from (sym c.in_ok-from.ensures.far ∙ is) in
    subst (IsFirst (MayBeChosen m c.args.face.now at c.args.towards (from ∷ []))) (sym c.from_residual-in_err-after.ensures)
    (first-no_side m (whole_valid m c.requires) c.args.face.now at c.args.towards from
    (subst (λ (p : ℕ). IsNoSide m (p, at)) same c.in_err-after.ensures.none))

pub returns-then-has_in_sector-clause-first : goal.returns-then-has_in_sector-clause-first
returns-then-has_in_sector-clause-first g c =
    let m = g.M.MapView.map c.args.map.now in
    let at = c.args.at in
    let after = c.in_ok-after.after in
    let face = is_face-same c.args.face.now c.in_ok-from.on_left (sym c.is_face.ensures ∙ c.if-not-is_face.false) in
    λ from is.
    let same = same_Some c.in_ok-from.from from (sym c.in_ok-from.ensures.far ∙ is) in
    subst (λ (p : ℕ). IsFirst (MayBeChosen m c.args.face.now at c.args.towards (p ∷ [])) (Some (corner c.in_ok-from.from at after))) same
    (first-one m (whole_valid m c.requires) c.args.face.now at c.args.towards c.in_ok-from.from after
    (subst (λ f. HasSide m f (c.in_ok-from.from, at)) (sym face) c.in_ok-from.ensures.some)
    c.in_ok-after.ensures.some (sym c.has_in_sector.ensures ∙ c.if-has_in_sector.true))

pub returns-else-has_in_sector-clause-first : goal.returns-else-has_in_sector-clause-first
returns-else-has_in_sector-clause-first g c =
    let m = g.M.MapView.map c.args.map.now in
    let at = c.args.at in
    λ from is.
    let same = same_Some c.in_ok-from.from from (sym c.in_ok-from.ensures.far ∙ is) in
    subst (λ (p : ℕ). IsFirst (MayBeChosen m c.args.face.now at c.args.towards (p ∷ [])) None) same
    (first-other_way m (whole_valid m c.requires) c.args.face.now at c.args.towards c.in_ok-from.from c.in_ok-after.after
    c.in_ok-after.ensures.some (sym c.has_in_sector.ensures ∙ c.if-has_in_sector.false))
