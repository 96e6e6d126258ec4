-- What a merger round an island leaves for the way back.
use Rattle.std.proofs.Common.{◌≡◌, ℕ, refl, subst, List}
use Rattle.cad_rings.specs.Cycle.{sides_of}
use Rattle.cad_rows.specs.declared.names.Face.{Face}
use Rattle.cad_rows.specs.declared.names.Face.TheVariants.{Parcel}
use Rattle.cad_rows.specs.declared.rows.ParcelRow.{ParcelRow}
use Rattle.half_table.specs.declared.half.Half.{Half}
use Rattle.half_table.specs.Rows.{HalfRows}
use Rattle.key_lists.specs.Held.{Held}
use Rattle.map_parts.specs.declared.edits.placed_strings.PlacedString.{PlacedString}
use Rattle.cad_map.specs.declared.map_rows.MapRows.{MapRows}
use Rattle.map_parts.specs.declared.stars.Spoke.{Spoke}
use Rattle.map_parts.specs.MergingIsland.{without_island, rings_apart, CanBeginMergeIsland, CanUnmergeIsland}
use Rattle.map_parts.proofs.IslandFits.{along-same, of-same}
use Rattle.map_parts.proofs.MergedRows.{HasGone, gone-stood, gone-there}

-- For the parcel of that number: what it leaves can come back.
abbrev GoesBack : (keeper : Face) (row : ParcelRow) (place : ℕ) (strings : List ℕ) (path moved : List Half) (rows new : MapRows) (table wide : HalfRows) (held put : Held Half)
    (stars filled : Held Spoke) (gone : List PlacedString) → ℕ → Type 0
GoesBack keeper row place strings path moved rows new table wide held put stars filled gone n =
    (c : CanBeginMergeIsland keeper n strings path moved rows table held stars) → HasGone (without_island c.is) keeper n strings path row place gone rows new table wide put filled
    → (undo : CanUnmergeIsland keeper row place path moved gone new wide put filled) × (undo.map ≡ c.map)

module _ {keeper : Face} {row : ParcelRow} {place : ℕ} {strings : List ℕ} {path moved : List Half} {rows new : MapRows} {table wide : HalfRows} {held put : Held Half}
    {stars filled : Held Spoke} {gone : List PlacedString} where
  its-own : GoesBack keeper row place strings path moved rows new table wide held put stars filled gone row.number
  its-own c it = (
    record {
      map = c.map;
      points = c.points;
      is = c.is;
      fits = it.fits;
      there = gone-there it c.fits;
      loose = it.loose;
      along = along-same table wide it.halves.origin path (sides_of c.points) c.along;
      moved_are = of-same table wide it.halves.origin c.map moved (Parcel row.number) (rings_apart c.is) c.moved_are;
      went = gone-stood it c.fits c.strings_are;
      room = it.room;
      inner_room = it.kept_room.inner;
      outer_room = it.kept_room.outer;
    },
    refl,
  )

  pub goes-back : {n : ℕ} → row.number ≡ n → GoesBack keeper row place strings path moved rows new table wide held put stars filled gone n
  goes-back is = subst (GoesBack keeper row place strings path moved rows new table wide held put stars filled gone) is its-own
