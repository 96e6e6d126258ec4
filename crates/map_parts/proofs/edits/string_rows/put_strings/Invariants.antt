use Rattle.std.proofs.Common.{◌≡◌, ◌++◌, length}
use Rattle.std.specs.Vec.Iter.{into_iter_items, into_iter_len}
use Rattle.cad_map.specs.MapRows.{map_in}
use Rattle.map_parts.specs.Splitting.{AreStarsOf}
use Rattle.map_parts.specs.StringRows.{CanPutStrings, KeepsRoom}
use Rattle.map_parts.proofs.edits.string_rows.put_strings.Given as goal

-- with the strings that are still to come it is all
abbrev pub invariant-loop-string : goal.invariant-loop-string
invariant-loop-string l = record {
  can : CanPutStrings (into_iter_items l.string-iterator) l.rows l.stars;
  whole : record (map_in l.rows) { strings = (map_in l.rows).strings ++ into_iter_items l.string-iterator }
      ≡ record (map_in l.initial.rows) { strings = (map_in l.initial.rows).strings ++ into_iter_items l.initial.string-iterator };
  stars : AreStarsOf (map_in l.initial.rows).strings l.initial.stars → AreStarsOf (map_in l.rows).strings l.stars;
  keeps : KeepsRoom l.initial.rows l.rows l.initial.stars l.stars;
  len : into_iter_len l.string-iterator ≡ length (into_iter_items l.string-iterator);
}
