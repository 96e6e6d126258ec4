-- Several strings that go from the rows, with the places that they leave, and come back there.
use Rattle.std.specs.Prelude.{◌≡◌, ◌≢◌, ℕ, List, map}
use Rattle.std.specs.List.{AllByRecursion}
use Rattle.cad_rows.specs.declared.rows.StringRow.{StringRow}
use Rattle.cad_map.specs.Valid.{EachPair}
use Rattle.entry_list.specs.Slots.{HasSlot}
use Rattle.key_lists.specs.Held.{Held}
use Rattle.map_parts.specs.declared.edits.placed_strings.PlacedString.{PlacedString}
use Rattle.cad_map.specs.declared.map_rows.MapRows.{MapRows}
use Rattle.map_parts.specs.declared.stars.Spoke.{Spoke}
use Rattle.cad_laws.specs.Taken.{AreAtPlaces}
use Rattle.cad_map.specs.MapRows.{map_in}
use Rattle.map_parts.specs.StringRows.{HasRoomFor, without_rows}

abbrev pub numbers_placed : List PlacedString → List ℕ
numbers_placed gone = map (λ (g : PlacedString). g.row.number) gone

-- each of these rows stood at its place when those before it were out
abbrev pub StoodIn : List StringRow → List PlacedString → Type 0
StoodIn rows gone = AreAtPlaces rows (map (λ (g : PlacedString). g.row) gone) (map (λ (g : PlacedString). g.place) gone)

-- These rows can come back: they stood in some list of which the others are left, and there is room
-- for them and for their halves.
pub record CanPutPlaced (gone : List PlacedString) (rows : MapRows) (stars : Held Spoke) : Type 0 where
  pub before : List StringRow
  pub differ : EachPair (λ a b. a ≢ b) (map (λ (s : StringRow). s.number) before)
  pub stood : StoodIn before gone
  pub left : (map_in rows).strings ≡ without_rows (numbers_placed gone) before
  pub slots : AllByRecursion (λ (g : PlacedString). HasSlot rows.strings g.row.number) gone
  pub two : AllByRecursion (λ (g : PlacedString). g.row.from ≢ g.row.to) gone
  pub room : HasRoomFor (map (λ (g : PlacedString). g.row) gone) stars
