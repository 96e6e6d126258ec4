use Rattle.std.proofs.Common.{◌≡◌, ◌≢◌, ◌+◌, List, map}
use Rattle.std.specs.Vec.{vec_len}
use Rattle.cad_rows.specs.declared.rows.StringRow.{StringRow}
use Rattle.cad_map.specs.Valid.{EachPair}
use Rattle.map_parts.specs.PlacedStrings.{CanPutPlaced, numbers_placed, StoodIn}
use Rattle.cad_map.specs.MapRows.{map_in}
use Rattle.numbered_rows.specs.Rows.{rows_in}
use Rattle.map_parts.specs.Splitting.{AreStarsOf}
use Rattle.map_parts.specs.StringRows.{without_rows, KeepsRoom}
use Rattle.map_parts.proofs.edits.placed_strings.put_placed.Given as goal

-- the others can come back, to the list in which all stood
abbrev pub invariant-loop-step : goal.invariant-loop-step
invariant-loop-step l = record {
  can : CanPutPlaced l.gone.items l.rows l.stars;
  back : (b : List StringRow) → EachPair (λ i j. i ≢ j) (map (λ (s : StringRow). s.number) b) → StoodIn b l.fn.gone.items
      → rows_in l.fn.rows.strings ≡ without_rows (numbers_placed l.fn.gone.items) b
      → StoodIn b l.gone.items × (rows_in l.rows.strings ≡ without_rows (numbers_placed l.gone.items) b);
  beside : map_in l.rows ≡ record (map_in l.fn.rows) { strings = rows_in l.rows.strings };
  stars : AreStarsOf (rows_in l.fn.rows.strings) l.fn.stars → AreStarsOf (rows_in l.rows.strings) l.stars;
  keeps : KeepsRoom l.fn.rows l.rows l.fn.stars l.stars;
  left : vec_len l.gone + l.step ≡ l.count;
}
