use Rattle.std.proofs.Common.{◌≡◌, drop}
use Rattle.cad_map.specs.MapRows.{map_in}
use Rattle.map_parts.specs.StringRows.{CanTakeStrings, without_rows, KeepsRoom}
use Rattle.map_parts.proofs.edits.string_rows.take_strings.Given as goal

-- with the strings that are still to go it is all
abbrev pub invariant-loop-string : goal.invariant-loop-string
invariant-loop-string l = record {
  can : CanTakeStrings (drop l.string-index l.strings) l.rows l.stars;
  whole : record (map_in l.rows) { strings = without_rows (drop l.string-index l.strings) (map_in l.rows).strings }
      ≡ record (map_in l.initial.rows) { strings = without_rows l.strings (map_in l.initial.rows).strings };
  keeps : KeepsRoom l.initial.rows l.rows l.initial.stars l.stars;
}
