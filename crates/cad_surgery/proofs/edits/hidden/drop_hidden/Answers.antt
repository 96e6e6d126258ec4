use Rattle.std.proofs.Common.{◌≡◌, ◌∙◌, false, ap, sym, subst}
use Rattle.cad_map.specs.Rings.{HasWholeRings}
use Rattle.map_parts.specs.Building.{parts_of}
use Rattle.map_parts.specs.Parts.{Parts, map_of}
use Rattle.cad_map.specs.MapRows.{map_in}
use Rattle.map_parts.specs.Shown.{KeepsShown}
use Rattle.half_table.specs.declared.half.Half.{Half}
use Rattle.cad_laws.specs.Local.{IsShown}
use Rattle.half_paths.specs.Path.{strings_of}
use Rattle.half_paths.specs.Loose.{is_of}
use Rattle.map_parts.proofs.KeptShown.{drops-hidden, table-fit, table-map}
use Rattle.cad_surgery.proofs.edits.hidden.drop_hidden.Goals as goal

pub returns-clause-shown : goal.returns-clause-shown
returns-clause-shown g c =
    subst (λ (d : Parts). KeepsShown (map_of d) d.table.rows c.drop_strings.new.table.rows) c.draft.view_is
    (let d : Parts = parts_of (map_in c.draft.inside.rows) c.draft.inside.table c.draft.inside.kept c.draft.inside.stars c.draft.inside.grid in
    drops-hidden (map_of d) d.table.rows c.drop_strings.new.table.rows c.args.halves.now
    (subst (λ (d : Parts). (h : Half) → IsShown (map_of d) h → is_of (strings_of c.args.halves.now) h ≡ false) (sym c.draft.view_is) c.requires.hidden)
    c.drop_strings.ensures.drops)

pub invariant_of-draft : goal.invariant_of-draft
invariant_of-draft g c =
    let d : Parts = parts_of (map_in c.draft.inside.rows) c.draft.inside.table c.draft.inside.kept c.draft.inside.stars c.draft.inside.grid in
    table-fit d c.drop_strings.new.table c.drop_strings.ensures.linked
    (subst (λ (d : Parts). KeepsShown (map_of d) d.table.rows c.drop_strings.new.table.rows) (sym c.draft.view_is) (returns-clause-shown g c))
    (subst (λ (d : Parts). HasWholeRings (map_of d)) (sym c.draft.view_is) c.requires.whole) c.draft.invariant

pub returns-clause-map : goal.returns-clause-map
returns-clause-map g c =
    let d : Parts = parts_of (map_in c.draft.inside.rows) c.draft.inside.table c.draft.inside.kept c.draft.inside.stars c.draft.inside.grid in
    table-map d c.drop_strings.new.table c.drop_strings.ensures.linked
    (subst (λ (d : Parts). KeepsShown (map_of d) d.table.rows c.drop_strings.new.table.rows) (sym c.draft.view_is) (returns-clause-shown g c))
    (subst (λ (d : Parts). HasWholeRings (map_of d)) (sym c.draft.view_is) c.requires.whole) c.draft.invariant
    ∙ ap map_of c.draft.view_is

pub returns-clause-fit : goal.returns-clause-fit
returns-clause-fit g c = invariant_of-draft g c
