use Rattle.std.proofs.Common.{refl, ◌∙◌, sym, subst}
use Rattle.std.proofs.lemmas.Option.{same_Some}
use Rattle.std.specs.Prelude.{IsSome}
use Rattle.cad_rows.specs.declared.rows.StringRow.{StringRow}
use Rattle.map_parts.specs.declared.edits.passing.Passing.{Passing}
use Rattle.map_parts.specs.Passing.{CanGoPast}
use Rattle.cad_map.specs.MapRows.{map_in}
use Rattle.map_parts.specs.Splitting.{CanMeet}
use Rattle.map_parts.proofs.Passing.SplitUndone as undone
use Rattle.map_parts.proofs.edits.split.unsplit.Goals as goal

pub go_past-requires : goal.go_past-requires
go_past-requires g c =
    subst (λ (q : Passing). CanGoPast q c.args.table.now.rows c.args.kept.now) (sym c.path-halves.ensures)
    (undone.undo-can c.requires)

pub string-first_row-requires : goal.string-first_row-requires
string-first_row-requires g c = subst IsSome (sym (undone.undo-first c.requires)) refl

pub string-second_row-requires : goal.string-second_row-requires
string-second_row-requires g c = subst IsSome (sym (undone.undo-second c.requires)) refl

pub join_spokes-requires : goal.join_spokes-requires
join_spokes-requires g c =
    let first = same_Some c.string-first_row.result.now _ (sym c.string-first_row.ensures ∙ undone.undo-first c.requires) in
    let second = same_Some c.string-second_row.result.now _ (sym c.string-second_row.ensures ∙ undone.undo-second c.requires) in
    subst (λ (v : StringRow × StringRow). CanMeet c.args.row v.0 v.1 c.args.stars.now) (λ i. (sym first i, sym second i))
    (undone.undo-meet c.requires)

pub unsplit_rows-requires : goal.unsplit_rows-requires
unsplit_rows-requires g c =
    let can = c.requires in
    record {
      point = undone.undo-point can;
      first = subst IsSome (sym (undone.undo-first can)) refl;
      second = subst IsSome (sym (undone.undo-second can)) refl;
      differ = undone.undo-differ can;
      absent = undone.undo-absent can;
      place = undone.undo-place can;
      slot = can.slot;
    }

pub returns-clause-fits : goal.returns-clause-fits
returns-clause-fits g c = λ can.
    let first = same_Some c.string-first_row.result.now _ (sym c.string-first_row.ensures ∙ undone.undo-first can) in
    let second = same_Some c.string-second_row.result.now _ (sym c.string-second_row.ensures ∙ undone.undo-second can) in
    record {
      rows_are = undone.undo-rows_are can (map_in c.unsplit_rows.new.rows) c.unsplit_rows.ensures;
      fits =
          undone.undo-fits can c.path-halves.result c.path-halves.ensures c.go_past.new.table.rows
          c.go_past.new.kept c.go_past.ensures.fits;
      are_stars =
          undone.undo-stars can c.string-first_row.result.now c.string-second_row.result.now first second
          c.join_spokes.new.stars c.join_spokes.ensures.stars;
    }
