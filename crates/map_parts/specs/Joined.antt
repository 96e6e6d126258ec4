-- Two strings joined at a point, in place, and the join taken back.
use Rattle.std.specs.Prelude.{◌≡◌, ℕ, Some, [], ◌∷◌, slice_get}
use Rattle.cad_rows.specs.declared.edits.Edit.TheVariants.{Join}
use Rattle.cad_rows.specs.declared.rows.StringRow.{StringRow}
use Rattle.cad_map.specs.Changes.{by_number, joined_sources}
use Rattle.cad_map.specs.Effects.{after}
use Rattle.cad_map.specs.Map.{Map, point_of, string_of, strings_at, far_end}
use Rattle.numbered_rows.specs.Rows.{without_row}
use Rattle.half_table.specs.declared.half.Half.{Half}
use Rattle.half_table.specs.Rows.{HalfRows, next}
use Rattle.half_paths.specs.Loose.{AreNew, AreLoose}
use Rattle.entry_list.specs.Slots.{HasSlot}
use Rattle.key_lists.specs.Held.{Held, HasRoomAt}
use Rattle.cad_laws.specs.Joining.{FarEndsAreApart}
use Rattle.cad_laws.specs.Tried.{IsTried}
use Rattle.map_parts.specs.declared.edits.join.JoinedRows.{JoinedRows}
use Rattle.cad_map.specs.declared.map_rows.MapRows.{MapRows}
use Rattle.map_parts.specs.declared.stars.Spoke.{Spoke}
use Rattle.map_parts.specs.Parts.{HasHalves}
use Rattle.map_parts.specs.Passing.{path_at}
use Rattle.map_parts.specs.Splitting.{FitMap}

-- A point and two strings went from the rows of a map, and these are their rows, with their places.
pub record HaveJoined (m : Map) (point first second : ℕ) (joined : JoinedRows) : Type 0 where
  -- the point's row stood at its place
  pub point_at : slice_get m.points joined.point_place ≡ Some joined.point
  pub point_found : point_of m point ≡ Some joined.point
  -- so did the row of the first string
  pub first_at : slice_get m.strings joined.first_place ≡ Some joined.first
  pub first_found : string_of m first ≡ Some joined.first
  -- and that of the second, when the first was out
  pub second_at : slice_get (without_row (λ r. r.number) first m.strings) joined.second_place ≡ Some joined.second
  pub second_found : string_of m second ≡ Some joined.second

-- they can come back without memory
pub record CanBePutBack (joined : JoinedRows) (rows : MapRows) : Type 0 where
  pub point_slot : HasSlot rows.points joined.point.number
  pub first_slot : HasSlot rows.strings joined.first.number
  pub second_slot : HasSlot rows.strings joined.second.number

-- The map is that after a join which was tried, and the rows that it took are at hand, with their
-- places: the strings are in the table, loose, and there is room for rows and stars.
pub record CanUnjoin (joined : JoinedRows) (new : ℕ) (rows : MapRows) (table : HalfRows)
    (held : Held Half) (stars : Held Spoke) : Type 0 where
  pub map : Map
  pub tried : IsTried map (Join joined.point.number new)
  pub apart : FarEndsAreApart map (Join joined.point.number new)
  pub are : by_number (strings_at map joined.point.number) ≡ joined.first ∷ joined.second ∷ []
  pub point_at : slice_get map.points joined.point_place ≡ Some joined.point
  pub first_at : slice_get map.strings joined.first_place ≡ Some joined.first
  pub second_at : slice_get (without_row (λ r. r.number) joined.first.number map.strings) joined.second_place
      ≡ Some joined.second
  pub fits : FitMap (after map (Join joined.point.number new)) rows table held stars
  pub first_there : HasHalves table joined.first
  pub second_there : HasHalves table joined.second
  pub loose : AreLoose (next table)
      ((path_at joined.point.number joined.first joined.second new).first
      ∷ (path_at joined.point.number joined.first joined.second new).second ∷ [])
  pub point_slot : HasSlot rows.points joined.point.number
  pub first_slot : HasSlot rows.strings joined.first.number
  pub second_slot : HasSlot rows.strings joined.second.number
  pub room : HasRoomAt stars joined.point.number 2

-- The join at a point of the map is tried, and it has been looked that the far ends aren't joined:
-- the table hasn't the new string yet.
pub record CanBeginJoin (point first second : ℕ) (row : StringRow) (rows : MapRows) (table : HalfRows)
    (held : Held Half) (stars : Held Spoke) : Type 0 where
  pub map : Map
  pub one : StringRow
  pub other : StringRow
  pub tried : IsTried map (Join point row.number)
  pub apart : FarEndsAreApart map (Join point row.number)
  pub are : by_number (strings_at map point) ≡ one ∷ other ∷ []
  pub first_is : one.number ≡ first
  pub second_is : other.number ≡ second
  pub row_is : row ≡ record {
    number = row.number;
    from = far_end one point;
    to = far_end other point;
    sources = joined_sources (one ∷ other ∷ []);
  }
  pub fits : FitMap map rows table held stars
  pub new : AreNew table (row ∷ [])

-- The map is that after a join which was tried, and the rows that it took are at hand, with their
-- places: the table has their strings no more.
pub record CanBeginUnjoin (joined : JoinedRows) (new_string : ℕ) (rows : MapRows) (table : HalfRows)
    (held : Held Half) (stars : Held Spoke) : Type 0 where
  pub map : Map
  pub tried : IsTried map (Join joined.point.number new_string)
  pub apart : FarEndsAreApart map (Join joined.point.number new_string)
  pub are : by_number (strings_at map joined.point.number) ≡ joined.first ∷ joined.second ∷ []
  pub point_at : slice_get map.points joined.point_place ≡ Some joined.point
  pub first_at : slice_get map.strings joined.first_place ≡ Some joined.first
  pub second_at : slice_get (without_row (λ r. r.number) joined.first.number map.strings) joined.second_place
      ≡ Some joined.second
  pub fits : FitMap (after map (Join joined.point.number new_string)) rows table held stars
  pub new : AreNew table (joined.first ∷ joined.second ∷ [])
