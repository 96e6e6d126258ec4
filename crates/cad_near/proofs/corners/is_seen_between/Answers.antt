use Rattle.std.proofs.Common.{◌∙◌, ℕ, refl, sym, subst, Some, ◌⊎◌}
use Rattle.geo_exact.specs.Sector.{in_sector}
use Rattle.cad_rows.specs.declared.rows.StringRow.{StringRow}
use Rattle.cad_map.specs.Map.{far_end}
use Rattle.cad_map.specs.Views.{IsNoSide}
use Rattle.cad_map.proofs.CallerLemmas.{told-is}
use Rattle.cad_near.proofs.SeenBetween.{told-beyond, seen-by, seen-none}
use Rattle.cad_near.proofs.corners.is_seen_between.Goals as goal

pub returns-in-Some : goal.returns-in-Some
returns-in-Some g c =
    let m = g.M.MapView.map c.args.map.now in
    let p = c.args.point in
    let far = c.args.far in
    let told = c.in-Some.ensures.some in
    seen-by m c.requires.whole p far (told-beyond m (g.M.MapView.view_strings c.args.map.now p) c.args.place p far told.0 c.requires.far told.1 told.2) c.in_sector.result
    (c.in_sector.ensures ∙ (λ i. in_sector (c.position.ensures i) (c.position-in-Some.ensures i) (c.position-in-Some-2.ensures i) (c.position-in-Some-3.ensures i)))

pub returns-in-None : goal.returns-in-None
returns-in-None g c =
    let m = g.M.MapView.map c.args.map.now in
    let p = c.args.point in
    let far = c.args.far in
    let told = told-is (λ (s : StringRow). far_end s p) (Some far) far (g.M.MapView.view_strings c.args.map.now p) c.args.place (sym c.requires.far) refl in
    let none = c.in-None.ensures.none told.0 told.1 in
    seen-none m c.requires.whole p far (subst (λ (q : ℕ). IsNoSide m (q, p) ⊎ IsNoSide m (p, q)) told.2 none)
