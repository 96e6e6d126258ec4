use Rattle.std.proofs.Common.{◌≡◌, ◌≤◌, ◌+◌, ◌++◌, drop, length, map}
use Rattle.std.specs.List.{AllByRecursion}
use Rattle.std.specs.Vec.{vec_len, vec_capacity}
use Rattle.entry_list.specs.Slots.{HasSlot}
use Rattle.cad_map.specs.MapRows.{map_in}
use Rattle.numbered_rows.specs.Rows.{rows_in}
use Rattle.map_parts.specs.PlacedStrings.{numbers_placed, StoodIn}
use Rattle.map_parts.specs.StringRows.{CanTakeStrings, HasRoomFor, without_rows, KeepsRoom}
use Rattle.map_parts.proofs.edits.placed_strings.take_placed.Given as goal

-- those that went are listed, and the others can go
abbrev pub invariant-loop-string : goal.invariant-loop-string
invariant-loop-string l = record {
  can : CanTakeStrings (drop l.string-index l.strings) l.rows l.stars;
  rows_are : rows_in l.rows.strings ≡ without_rows (numbers_placed l.gone.items) (rows_in l.initial.rows.strings);
  beside : map_in l.rows ≡ record (map_in l.initial.rows) { strings = rows_in l.rows.strings };
  keeps : KeepsRoom l.initial.rows l.rows l.initial.stars l.stars;
  star_room : HasRoomFor (map (λ g. g.row) l.gone.items) l.stars;
  numbers : numbers_placed l.gone.items ++ drop l.string-index l.strings ≡ l.strings;
  stood : StoodIn (rows_in l.initial.rows.strings) l.gone.items;
  kept : AllByRecursion (λ g. HasSlot l.rows.strings g.row.number) l.gone.items;
  room : vec_len l.gone + length (drop l.string-index l.strings) ≤ vec_capacity l.gone;
}
