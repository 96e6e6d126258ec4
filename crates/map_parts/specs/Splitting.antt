-- A split, made in place and taken back.
use Rattle.std.specs.Prelude.{◌≡◌, ◌≢◌, ℕ, ℤ, ◌⊎◌, Some, List, [], ◌∷◌, IsPermutation, slice_get}
use Rattle.std.specs.List.{Contains}
use Rattle.cad_rows.specs.declared.edits.Edit.TheVariants.{Split}
use Rattle.cad_rows.specs.declared.rows.PointRow.{PointRow}
use Rattle.cad_rows.specs.declared.rows.StringRow.{StringRow}
use Rattle.cad_map.specs.Effects.{after}
use Rattle.cad_map.specs.Map.{Map, string_of}
use Rattle.half_table.specs.Half.{forward_of}
use Rattle.half_table.specs.Rows.{HalfRows, next}
use Rattle.half_paths.specs.Loose.{AreNew, AreLoose}
use Rattle.entry_list.specs.Slots.{HasSlot}
use Rattle.key_lists.specs.Held.{Held, items_at, HasRoomAt}
use Rattle.half_table.specs.declared.half.Half.{Half}
use Rattle.cad_laws.specs.Tried.{IsTried}
use Rattle.cad_map.specs.declared.map_rows.MapRows.{MapRows}
use Rattle.map_parts.specs.declared.stars.Spoke.{Spoke}
use Rattle.cad_map.specs.MapRows.{map_in}
use Rattle.map_parts.specs.Stars.{spokes_at}
use Rattle.map_parts.specs.Parts.{HasHalves}
use Rattle.map_parts.specs.Passing.{FitTable}

-- the stars are those of these strings
abbrev pub AreStarsOf : List StringRow → Held Spoke → Type 0
AreStarsOf strings stars = (p : ℕ) → IsPermutation (spokes_at p strings) (items_at stars p)

-- the string leads from one of the points to the other, in one direction or the other
abbrev pub Connects : StringRow → ℕ → ℕ → Type 0
Connects s a b = ((s.from ≡ a) × (s.to ≡ b)) ⊎ ((s.from ≡ b) × (s.to ≡ a))

-- A string is in the stars, and two others come that meet at a third point: there is room for both
-- there.
pub record CanPart (whole first second : StringRow) (stars : Held Spoke) : Type 0 where
  pub strings : List StringRow
  pub are : AreStarsOf strings stars
  pub there : Contains strings whole
  pub point : ℕ
  pub two : whole.from ≢ whole.to
  pub from_apart : whole.from ≢ point
  pub to_apart : whole.to ≢ point
  pub before : Connects first whole.from point
  pub behind : Connects second whole.to point
  pub room : HasRoomAt stars point 2

-- Two strings that meet at a point are in the stars, and a string between their other ends comes.
pub record CanMeet (whole first second : StringRow) (stars : Held Spoke) : Type 0 where
  pub strings : List StringRow
  pub left : List StringRow
  pub are : AreStarsOf strings stars
  pub parts : IsPermutation strings (first ∷ second ∷ left)
  pub point : ℕ
  pub two : whole.from ≢ whole.to
  pub from_apart : whole.from ≢ point
  pub to_apart : whole.to ≢ point
  pub before : Connects first whole.from point
  pub behind : Connects second whole.to point

-- rows, a table with one half kept of each ring, and stars are those of the map
pub record FitMap (m : Map) (rows : MapRows) (table : HalfRows) (held : Held Half) (stars : Held Spoke) : Type 0 where
  pub rows_are : map_in rows ≡ record m { boundaries = [] }
  pub fits : FitTable m table held
  pub are_stars : AreStarsOf m.strings stars

-- The map is that after a split which was tried, and the row of the string that was split, with its
-- place, is at hand: the string is in the table, loose, and its number has a slot.
pub record CanUnsplit (row : StringRow) (place point first second : ℕ) (rows : MapRows)
    (table : HalfRows) (held : Held Half) (stars : Held Spoke) : Type 0 where
  pub map : Map
  pub x : ℤ
  pub y : ℤ
  pub tried : IsTried map (Split row.number point x y first second)
  pub at : slice_get map.strings place ≡ Some row
  pub fits : FitMap (after map (Split row.number point x y first second)) rows table held stars
  pub there : HasHalves table row
  pub loose : AreLoose (next table) (forward_of row.number ∷ [])
  pub slot : HasSlot rows.strings row.number

-- The split of a string of the map is tried, with the rows that it brings: the table has none of the
-- two strings yet.
pub record CanBeginSplit (string : ℕ) (point : PointRow) (first second : StringRow) (rows : MapRows)
    (table : HalfRows) (held : Held Half) (stars : Held Spoke) : Type 0 where
  pub map : Map
  pub row : StringRow
  pub tried : IsTried map (Split string point.number point.position.x point.position.y first.number second.number)
  pub found : string_of map string ≡ Some row
  pub no_sources : point.sources ≡ []
  pub first_is : first ≡ record { number = first.number; from = row.from; to = point.number; sources = row.sources }
  pub second_is : second ≡ record { number = second.number; from = point.number; to = row.to; sources = row.sources }
  pub fits : FitMap map rows table held stars
  pub new : AreNew table (first ∷ second ∷ [])

-- The map is that after a split which was tried, and the row of the string that was split, with its
-- place, is at hand: the table doesn't have the string yet.
pub record CanBeginUnsplit (row : StringRow) (place point first second : ℕ) (rows : MapRows)
    (table : HalfRows) (held : Held Half) (stars : Held Spoke) : Type 0 where
  pub map : Map
  pub x : ℤ
  pub y : ℤ
  pub tried : IsTried map (Split row.number point x y first second)
  pub at : slice_get map.strings place ≡ Some row
  pub fits : FitMap (after map (Split row.number point x y first second)) rows table held stars
  pub new : AreNew table (row ∷ [])
