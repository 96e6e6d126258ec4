-- Several strings that come last among the rows, with their halves in the stars, and go again.
use Rattle.std.specs.Prelude.{◌≡◌, ◌≢◌, ℕ, ◌<◌, None, IsSome, List, [], ◌∷◌, map, length}
use Rattle.std.specs.List.{AllByRecursion}
use Rattle.cad_rows.specs.declared.rows.StringRow.{StringRow}
use Rattle.cad_map.specs.Map.{string_of}
use Rattle.numbered_rows.specs.Rows.{without_row}
use Rattle.cad_map.specs.Valid.{EachPair}
use Rattle.entry_list.specs.Slots.{HasSlot, KeepsSlots}
use Rattle.key_lists.specs.Held.{Held, HasRoomAt, capacity_at}
use Rattle.cad_map.specs.declared.map_rows.MapRows.{MapRows}
use Rattle.map_parts.specs.declared.stars.Spoke.{Spoke}
use Rattle.cad_map.specs.MapRows.{map_in}
use Rattle.map_parts.specs.Stars.{spokes_at}
use Rattle.map_parts.specs.Splitting.{AreStarsOf}

-- at each of their ends there is room for the halves of these strings that begin there
abbrev pub HasRoomFor : List StringRow → Held Spoke → Type 0
HasRoomFor strings stars = (p : ℕ) → 0 < length (spokes_at p strings) → HasRoomAt stars p (length (spokes_at p strings))

-- strings with new numbers, each with two ends, and with room for rows and stars
pub record CanPutStrings (added : List StringRow) (rows : MapRows) (stars : Held Spoke) : Type 0 where
  pub slots : AllByRecursion (λ (s : StringRow). HasSlot rows.strings s.number) added
  pub absent : AllByRecursion (λ (s : StringRow). string_of (map_in rows) s.number ≡ None) added
  pub differ : EachPair (λ a b. a ≢ b) (map (λ (s : StringRow). s.number) added)
  pub two : AllByRecursion (λ (s : StringRow). s.from ≢ s.to) added
  pub room : HasRoomFor added stars

-- the strings without those with these numbers
abbrev pub without_rows : List ℕ → List StringRow → List StringRow
without_rows [] strings = strings
without_rows (n ∷ numbers) strings = without_rows numbers (without_row (λ r. r.number) n strings)

-- different strings of the rows, in their stars
pub record CanTakeStrings (numbers : List ℕ) (rows : MapRows) (stars : Held Spoke) : Type 0 where
  pub there : AllByRecursion (λ n. IsSome (string_of (map_in rows) n)) numbers
  pub differ : EachPair (λ a b. a ≢ b) numbers
  pub numbers_differ : EachPair (λ a b. a ≢ b) (map (λ (s : StringRow). s.number) (map_in rows).strings)
  pub two : AllByRecursion (λ (s : StringRow). s.from ≢ s.to) (map_in rows).strings
  pub are : AreStarsOf (map_in rows).strings stars

-- each string's number and each parcel's has its slot still, and each star the room that it had
pub record KeepsRoom (rows more : MapRows) (stars filled : Held Spoke) : Type 0 where
  pub strings : KeepsSlots rows.strings more.strings
  pub parcels : KeepsSlots rows.parcels more.parcels
  pub capacity : (p : ℕ) → capacity_at filled p ≡ capacity_at stars p
