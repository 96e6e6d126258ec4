use Rattle.std.proofs.Common.{◌≡◌, ◌∙◌, sym, ap, subst, slice_get, None}
use Rattle.std.specs.Prelude.{IsPermutation}
use Rattle.std.specs.Option.{option_copied}
use Rattle.cad_rows.specs.declared.rows.StringRow.{StringRow}
use Rattle.cad_map.specs.Map.{strings_at}
use Rattle.numbered_rows.specs.Rows.{row_with}
use Rattle.map_parts.specs.Parts.{Parts, map_of}
use Rattle.numbered_rows.specs.Rows.{rows_in}
use Rattle.map_parts.specs.Views.{view_strings}
use Rattle.cad_surgery.proofs.StarStrings.{strings-each, string-told, none-told}
use Rattle.cad_surgery.proofs.draft.DraftMapView.string_with.Goals as goal

pub returns-in_err-half-clause-string : goal.returns-in_err-half-clause-string
returns-in_err-half-clause-string g c =
    ap option_copied c.from_residual.ensures
    ∙ sym (subst (λ (d : Parts). slice_get (view_strings d c.args.point) c.args.place ≡ None) c.self.view_is
    (none-told _ c.self.invariant c.args.point c.args.place (sym c.half_at.ensures ∙ c.in_err-half.was)))

pub returns-in_err-half-clause-each : goal.returns-in_err-half-clause-each
returns-in_err-half-clause-each g c =
    subst (λ (d : Parts). IsPermutation (strings_at (map_of d) c.args.point) (view_strings d c.args.point)) c.self.view_is
    (strings-each _ c.self.invariant c.args.point)

pub returns-clause-string : goal.returns-clause-string
returns-clause-string g c =
    let h = c.in_ok-half.half in
    let found : option_copied c.get-2.result ≡ row_with (λ (r : StringRow). r.number) h.string (rows_in c.self.inside.rows.strings) = rw c.get.ensures.value at c.get-2.ensures in
    subst (λ (d : Parts). option_copied c.get-2.result ≡ slice_get (view_strings d c.args.point) c.args.place) c.self.view_is
    (found ∙ string-told _ c.self.invariant c.args.point c.args.place h (sym c.in_ok-half.ensures))

pub returns-clause-each : goal.returns-clause-each
returns-clause-each g c =
    subst (λ (d : Parts). IsPermutation (strings_at (map_of d) c.args.point) (view_strings d c.args.point)) c.self.view_is
    (strings-each _ c.self.invariant c.args.point)
