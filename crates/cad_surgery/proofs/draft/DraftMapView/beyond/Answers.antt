use Rattle.std.proofs.Common.{◌≡◌, sym, ◌∙◌, subst, Some, None, slice_get}
use Rattle.cad_rings.specs.Cycle.{Side}
use Rattle.half_table.specs.Half.{twin}
use Rattle.half_table.specs.Rows.{origin_of}
use Rattle.cad_map.specs.Map.{far_end}
use Rattle.cad_map.specs.Views.{AreBeyond}
use Rattle.cad_laws.specs.Local.{IsShown}
use Rattle.map_parts.specs.Parts.{Parts, rows_of, map_of}
use Rattle.map_parts.specs.Views.{view_strings}
use Rattle.cad_surgery.proofs.StarStrings.{none-told}
use Rattle.cad_surgery.proofs.PartsBeyond.{half-told}
use Rattle.cad_surgery.proofs.draft.DraftMapView.beyond.Goals as goal

pub ends_beyond-requires : goal.ends_beyond-requires
ends_beyond-requires g c =
    let half = c.in_ok-half.half in
    subst (λ (d : Parts). IsShown (rows_of d) half) c.self.view_is
    (half-told _ c.self.invariant c.args.point c.args.place half (sym c.in_ok-half.ensures)).shown

pub returns-clause-some : goal.returns-clause-some
returns-clause-some g c =
    let point = c.args.point in
    let half = c.in_ok-half.half in
    let it = half-told _ c.self.invariant point c.args.place half (sym c.in_ok-half.ensures) in
    let from = subst (λ (d : Parts). origin_of d.table.rows half ≡ point) c.self.view_is it.from in
    let far = subst (λ (d : Parts). origin_of d.table.rows (twin half) ≡ far_end it.string point) c.self.view_is it.far in (
      it.string,
      subst (λ (d : Parts). slice_get (view_strings d point) c.args.place ≡ Some it.string) c.self.view_is it.there,
      subst (λ (t : Side). AreBeyond (map_of c.args.self.now) t.0 t.1 c.ends_beyond.result.0 c.ends_beyond.result.1) (λ i. (from i, far i)) c.ends_beyond.ensures,
    )

pub returns-in_err-half-clause-none : goal.returns-in_err-half-clause-none
returns-in_err-half-clause-none g c =
    let none = subst (λ (d : Parts). slice_get (view_strings d c.args.point) c.args.place ≡ None) c.self.view_is
    (none-told _ c.self.invariant c.args.point c.args.place (sym c.half_at.ensures ∙ c.in_err-half.was)) in
    rw c.from_residual.ensures (λ s there. let e : Some s ≡ None = sym there ∙ none in cc)
