use Rattle.std.proofs.Common.{◌∙◌, refl, sym, subst}
use Rattle.std.specs.Prelude.{IsSome}
use Rattle.std.proofs.lemmas.Option.{same_Some}
use Rattle.cad_rows.specs.declared.rows.StringRow.{StringRow}
use Rattle.map_parts.specs.declared.edits.passing.Passing.{Passing}
use Rattle.map_parts.specs.Passing.{CanGoThrough}
use Rattle.cad_map.specs.MapRows.{map_in}
use Rattle.map_parts.specs.Splitting.{CanPart}
use Rattle.map_parts.proofs.Passing.JoinUndone as undone
use Rattle.map_parts.proofs.edits.join.unjoin.Goals as goal

pub go_through-requires : goal.go_through-requires
go_through-requires g c =
    subst (λ (q : Passing). CanGoThrough q c.args.table.now.rows c.args.kept.now) (sym c.path-halves.ensures)
    (undone.undo-can c.requires)

pub string-whole-requires : goal.string-whole-requires
string-whole-requires g c = subst IsSome (sym (undone.undo-whole c.requires)) refl

pub part_spokes-requires : goal.part_spokes-requires
part_spokes-requires g c =
    let same = same_Some c.string-whole.result.now _ (sym c.string-whole.ensures ∙ undone.undo-whole c.requires) in
    subst (λ (v : StringRow). CanPart v c.args.joined.first c.args.joined.second c.args.stars.now) (sym same)
    (undone.undo-part c.requires)

pub unjoin_rows-requires : goal.unjoin_rows-requires
unjoin_rows-requires g c = record {
  new = subst IsSome (sym (undone.undo-whole c.requires)) refl;
  no_point = undone.undo-no_point c.requires;
  no_first = undone.undo-no_first c.requires;
  no_second = undone.undo-no_second c.requires;
  differ = undone.undo-differ c.requires;
  point_place = undone.undo-point_place c.requires;
  second_place = undone.undo-second_place c.requires;
  first_place = undone.undo-first_place c.requires;
  point_slot = c.requires.point_slot;
  first_slot = c.requires.first_slot;
  second_slot = c.requires.second_slot;
}

pub returns-clause-fits : goal.returns-clause-fits
returns-clause-fits g c = λ can.
    let same = same_Some c.string-whole.result.now _ (sym c.string-whole.ensures ∙ undone.undo-whole can) in
    record {
      rows_are = undone.undo-rows_are can (map_in c.unjoin_rows.new.rows) c.unjoin_rows.ensures;
      fits =
          undone.undo-fits can c.path-halves.result c.path-halves.ensures c.go_through.new.table.rows
          c.go_through.new.kept c.go_through.ensures.fits;
      are_stars =
          undone.undo-stars can c.string-whole.result.now same c.part_spokes.new.stars c.part_spokes.ensures;
    }
