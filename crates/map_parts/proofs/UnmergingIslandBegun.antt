-- A merger round an island that is taken back with the room that it takes and its strings in the table.
use Rattle.std.proofs.Common.{ℕ, sym, ◌∙◌, List, arith}
use Rattle.cad_rows.specs.declared.names.Face.{Face}
use Rattle.cad_rows.specs.declared.names.Face.TheVariants.{Parcel}
use Rattle.cad_rows.specs.declared.rows.ParcelRow.{ParcelRow}
use Rattle.cad_map.specs.Boundaries.{bounding}
use Rattle.cad_map.specs.Map.{Map}
use Rattle.half_table.specs.declared.half.Half.{Half}
use Rattle.half_table.specs.Rows.{HalfRows}
use Rattle.key_lists.specs.Held.{Held}
use Rattle.map_parts.specs.declared.edits.placed_strings.PlacedString.{PlacedString}
use Rattle.cad_map.specs.declared.map_rows.MapRows.{MapRows}
use Rattle.map_parts.specs.declared.stars.Spoke.{Spoke}
use Rattle.map_parts.specs.Adding.{AreAdded}
use Rattle.map_parts.specs.Merging.{rows_gone}
use Rattle.map_parts.specs.MergingIsland.{without_island, rings_apart, CanBeginUnmergeIsland, CanUnmergeIsland}
use Rattle.map_parts.proofs.IslandPoints.{points-differ}
use Rattle.map_parts.proofs.MergingIsland as merging
use Rattle.map_parts.proofs.RoomMade.{ready, of-still}
use Rattle.map_parts.proofs.UnmergingBegun.{gone-named, ring-ends_room, rows-led, as-many, ready-there, ready-room}

module _ {keeper : Face} {row : ParcelRow} {place : ℕ} {path moved : List Half} {gone : List PlacedString} {rows : MapRows} {table : HalfRows} {held : Held Half} {stars : Held Spoke}
    (c : CanBeginUnmergeIsland keeper row place path moved gone rows table held stars) where
  abbrev pub last : Map
  last = without_island c.is

  abbrev pub undo-can : {more : MapRows} {new : HalfRows} {wide : Held Half} {filled : Held Spoke}
      → AreAdded (rows_gone gone) keeper row.number rows more table new held wide stars filled → CanUnmergeIsland keeper row place path moved gone more new wide filled
  undo-can {new = new} {filled = filled} grown =
      let named = gone-named path gone c.numbers_are in
      let law = merging.island c.map keeper row.number c.points path c.is in
      let long = merging.long c.map keeper row.number c.points path c.is in
      let each = points-differ last c.map c.is.tried.valid keeper (Parcel row.number) c.points (bounding (Parcel row.number) c.is.ended_ring) (bounding keeper c.is.kept_ring) (rings_apart c.is) law long in
      let it =
      ready last (rows_gone gone) keeper row.number path c.fits c.new named
      (ring-ends_room path (rows_gone gone) c.points each (as-many path gone named) c.sides filled grown.room.ends) grown in
      record {
        map = c.map;
        points = c.points;
        is = c.is;
        fits = it.fits;
        there = ready-there row gone it;
        loose = it.loose;
        along = rows-led new path (rows_gone gone) (sym named) it.there ∙ c.sides;
        moved_are = of-still c.new grown.adds c.map moved (Parcel row.number) (rings_apart c.is) c.moved_in c.moved_are;
        went = record { row = c.at; numbers = c.numbers_are; stood = c.stood };
        room = ready-room row gone it;
        inner_room = let more = grown.room.inner_room in omega (arith, more);
        outer_room = let more = grown.room.outer_room in omega (arith, more);
      }
