-- A split that is taken back with the room that it takes and its string in the table.
use Rattle.std.proofs.Common.{ℕ}
use Rattle.cad_rows.specs.declared.edits.Edit.TheVariants.{Split}
use Rattle.cad_rows.specs.declared.rows.StringRow.{StringRow}
use Rattle.cad_map.specs.Effects.{after}
use Rattle.half_table.specs.Rows.{HalfRows}
use Rattle.half_table.specs.declared.half.Half.{Half}
use Rattle.entry_list.specs.Slots.{HasSlot}
use Rattle.key_lists.specs.Held.{Held}
use Rattle.cad_map.specs.declared.map_rows.MapRows.{MapRows}
use Rattle.map_parts.specs.declared.stars.Spoke.{Spoke}
use Rattle.map_parts.specs.Splitting.{CanUnsplit, CanBeginUnsplit}
use Rattle.map_parts.proofs.Passing.Begun.{IsStringReady}

abbrev pub back-can : {row : StringRow} {place p first second : ℕ} {rows more : MapRows} {table new : HalfRows} {held : Held Half} {stars : Held Spoke}
    (can : CanBeginUnsplit row place p first second rows table held stars)
    → IsStringReady (after can.map (Split row.number p can.x can.y first second)) row more new held stars → HasSlot more.strings row.number
    → CanUnsplit row place p first second more new held stars
back-can can ready slot = record {
  map = can.map;
  x = can.x;
  y = can.y;
  tried = can.tried;
  at = can.at;
  fits = ready.fits;
  there = ready.there;
  loose = ready.loose;
  slot = slot;
}
