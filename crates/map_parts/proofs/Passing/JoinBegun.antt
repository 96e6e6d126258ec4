-- A join that is taken back with the room that it takes and its strings in the table.
use Rattle.std.proofs.Common.{ℕ, not, ◌==◌, ◌≢◌}
use Rattle.cad_rows.specs.declared.edits.Edit.TheVariants.{Join}
use Rattle.cad_map.specs.Effects.{after}
use Rattle.half_table.specs.declared.half.Half.{Half}
use Rattle.half_table.specs.Rows.{HalfRows}
use Rattle.key_lists.specs.Held.{Held}
use Rattle.map_parts.specs.declared.edits.join.JoinedRows.{JoinedRows}
use Rattle.cad_map.specs.declared.map_rows.MapRows.{MapRows}
use Rattle.map_parts.specs.declared.stars.Spoke.{Spoke}
use Rattle.map_parts.specs.Adding.{HasRoomForPath}
use Rattle.map_parts.specs.Joined.{CanUnjoin, CanBeginUnjoin}
use Rattle.map_parts.proofs.Passing.Begun.{IsPathReady}
use Rattle.map_parts.proofs.Passing.JoinBetween as made

module _ {joined : JoinedRows} {new_string : ℕ} {rows : MapRows} {table : HalfRows} {held : Held Half} {stars : Held Spoke} (can : CanBeginUnjoin joined new_string rows table held stars) where
  pub differ : joined.first.number ≢ joined.second.number
  differ = made.join-differ can.map joined.point.number new_string joined.first joined.second can.tried can.are can.apart

  abbrev pub back-can : {more : MapRows} {new : HalfRows} {wide : Held Spoke}
      → IsPathReady (after can.map (Join joined.point.number new_string)) joined.first joined.second
      (not (joined.first.from == joined.point.number)) (joined.second.from == joined.point.number) more new held wide
      → HasRoomForPath joined.point.number joined.first.number joined.second.number more wide → CanUnjoin joined new_string more new held wide
  back-can ready room = record {
    map = can.map;
    tried = can.tried;
    apart = can.apart;
    are = can.are;
    point_at = can.point_at;
    first_at = can.first_at;
    second_at = can.second_at;
    fits = ready.fits;
    first_there = ready.first_there;
    second_there = ready.second_there;
    loose = ready.loose;
    point_slot = room.point_slot;
    first_slot = room.first_slot;
    second_slot = room.second_slot;
    room = room.star_room;
  }
