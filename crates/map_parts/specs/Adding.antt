-- Strings and a parcel that come into a face, with the room that they take.
use Rattle.std.specs.Prelude.{◌≡◌, ℕ, ◌+◌, List, length}
use Rattle.std.specs.List.{AllByRecursion}
use Rattle.cad_rows.specs.declared.names.Face.{Face}
use Rattle.cad_rows.specs.declared.names.Face.TheVariants.{Parcel}
use Rattle.cad_rows.specs.declared.rows.StringRow.{StringRow}
use Rattle.cad_map.specs.Boundaries.{face_place}
use Rattle.half_table.specs.declared.half.Half.{Half}
use Rattle.half_table.specs.Rows.{HalfRows, IsLinked}
use Rattle.half_paths.specs.Loose.{AddsStrings}
use Rattle.entry_list.specs.Slots.{HasSlot}
use Rattle.key_lists.specs.Held.{Held, IsSame, items_at, HasRoomAt}
use Rattle.cad_map.specs.declared.map_rows.MapRows.{MapRows}
use Rattle.map_parts.specs.declared.stars.Spoke.{Spoke}
use Rattle.cad_map.specs.MapRows.{map_in}

-- Room that was made changes nothing that is seen.
pub record IsSeenAs (rows more : MapRows) (held wide : Held Half) (stars filled : Held Spoke) : Type 0 where
  pub same_rows : map_in more ≡ map_in rows
  pub same_kept : IsSame held wide
  pub same_stars : IsSame stars filled

-- at both ends of the string two halves more can begin
abbrev pub HasRoomAtEnds : Held Spoke → StringRow → Type 0
HasRoomAtEnds stars s = HasRoomAt stars s.from 2 × HasRoomAt stars s.to 2

-- Strings and a parcel can come into a face without memory, with the halves that are kept of their
-- rings.
pub record HasRoomToCome (strings : List StringRow) (face : Face) (parcel : ℕ) (rows : MapRows) (held : Held Half) (stars : Held Spoke) : Type 0 where
  -- each string's number has a slot
  pub slots : AllByRecursion (λ (s : StringRow). HasSlot rows.strings s.number) strings
  -- the parcel's has one
  pub parcel_slot : HasSlot rows.parcels parcel
  -- at the ends of the strings there is room for their halves
  pub ends : AllByRecursion (HasRoomAtEnds stars) strings
  -- the parcel's list has room for all halves that are kept for the face, and for two more
  pub inner_room : HasRoomAt held (face_place (Parcel parcel)) (length (items_at held (face_place face)) + 2)
  -- the face's has room for two
  pub outer_room : HasRoomAt held (face_place face) 2

-- Room was made for strings and a parcel to come into a face, and the table has the strings more, loose.
pub record AreAdded (strings : List StringRow) (face : Face) (parcel : ℕ) (rows more : MapRows) (table new : HalfRows) (held wide : Held Half) (stars filled : Held Spoke) : Type 0 where
  pub seen : IsSeenAs rows more held wide stars filled
  pub room : HasRoomToCome strings face parcel more wide filled
  pub adds : AddsStrings strings table new
  pub linked : IsLinked new

-- The halves that are kept for a face and for a parcel, and one more, can be kept for either without
-- memory.
pub record HasRoomToExchange (face : Face) (parcel : ℕ) (held : Held Half) : Type 0 where
  pub inner : HasRoomAt held (face_place (Parcel parcel)) (length (items_at held (face_place face)) + 1)
  pub outer : HasRoomAt held (face_place face) (length (items_at held (face_place (Parcel parcel))) + 1)

-- A point and two strings that meet there can come without memory.
pub record HasRoomForPath (point first second : ℕ) (rows : MapRows) (stars : Held Spoke) : Type 0 where
  pub point_slot : HasSlot rows.points point
  pub first_slot : HasSlot rows.strings first
  pub second_slot : HasSlot rows.strings second
  pub star_room : HasRoomAt stars point 2
