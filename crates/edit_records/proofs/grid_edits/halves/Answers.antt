use Rattle.std.proofs.Common.{ℕ, ap, sym, refl, subst, ◌∙◌}
use Rattle.std.specs.Option.{option_copied}
use Rattle.cad_rows.specs.declared.edits.Edit.TheVariants.{Split}
use Rattle.cad_rows.specs.declared.rows.StringRow.{StringRow}
use Rattle.cad_map.specs.Map.{string_of}
use Rattle.cad_map.proofs.CallerLemmas.{found-number}
use Rattle.cad_laws.specs.Tried.{IsTried}
use Rattle.edit_records.specs.GridEdits.{come_by}
use Rattle.edit_records.specs.GridLists.{AreEntries}
use Rattle.edit_records.proofs.GridEdits.{if-ok, lent-found, beside, split-there}
use Rattle.edit_records.proofs.grid_edits.halves.Goals as goal

pub unwrap-row-requires : goal.unwrap-row-requires
unwrap-row-requires g c =
    let a = c.args in
    let there = split-there (g.M.MapView.map a.map.now) a.string a.point a.at.x a.at.y a.first a.second c.requires in
    lent-found c.string.result there.0 (c.string.ensures ∙ there.1)

pub returns : goal.returns
returns g c =
    let m = g.M.MapView.map c.args.map.now in
    let a = c.args in
    let row = c.unwrap-row.result.now in
    let is = sym c.string.ensures ∙ ap option_copied c.unwrap-row.ensures in
    let numbered = found-number (λ (r : StringRow). r.number) a.string m.strings row is in
    let tried = subst (λ (n : ℕ). IsTried m (Split n a.point a.at.x a.at.y a.first a.second)) (sym numbered) c.requires in
    if-ok c.two_strings.result (λ l splits.
    subst (λ (n : ℕ). AreEntries (come_by m (Split n a.point a.at.x a.at.y a.first a.second)) l) numbered
    (splits m row (beside m _ tried) (ap (string_of m) numbered ∙ is) refl refl refl refl)) c.two_strings.ensures.splits
