-- A division, made in place and taken back.
use Rattle.std.specs.Prelude.{◌≡◌, ℕ, ◌+◌, List, [], ◌∷◌, map, length}
use Rattle.cad_rows.specs.declared.edits.Edit.TheVariants.{Divide}
use Rattle.cad_rows.specs.declared.names.Face.{Face}
use Rattle.cad_rows.specs.declared.names.Face.TheVariants.{Parcel}
use Rattle.cad_rows.specs.declared.rows.ParcelRow.{ParcelRow}
use Rattle.cad_rows.specs.declared.rows.StringRow.{StringRow}
use Rattle.cad_rings.specs.Cycle.{Corner}
use Rattle.cad_map.specs.declared.boundary.Boundary.{Boundary}
use Rattle.cad_map.specs.Boundaries.{face_place}
use Rattle.cad_map.specs.Chain.{leaving, strings_along}
use Rattle.cad_map.specs.Division.{hole_placed}
use Rattle.cad_map.specs.Effects.{after}
use Rattle.cad_map.specs.Map.{Map}
use Rattle.half_table.specs.declared.half.Half.{Half}
use Rattle.half_table.specs.Half.{forward_of}
use Rattle.half_table.specs.Rows.{HalfRows}
use Rattle.half_paths.specs.Path.{AreIn}
use Rattle.half_paths.specs.Loose.{AreNew}
use Rattle.key_lists.specs.Held.{Held, items_at, HasRoomAt}
use Rattle.cad_laws.specs.Faces.{IsDividedIn, left_of_chain, uncut}
use Rattle.cad_laws.specs.Tried.{IsTried, AreChosen}
use Rattle.cad_map.specs.declared.map_rows.MapRows.{MapRows}
use Rattle.map_parts.specs.declared.stars.Spoke.{Spoke}
use Rattle.map_parts.specs.Labels.{IsAlong}
use Rattle.map_parts.specs.Islands.{AreOfRings}
use Rattle.map_parts.specs.Splitting.{FitMap}

-- The division of a face is tried, with the strings that it brings, and the halves along the chain.
pub record IsDividing (m : Map) (face : Face) (numbers : List ℕ) (added : List StringRow) (parcel : ℕ) (path : List Half) : Type 0 where
  pub chain : List ℕ
  pub label : List ℕ
  pub source : ℕ
  pub first : Corner
  pub last : Corner
  pub tried : IsTried m (Divide face chain numbers parcel label source)
  pub chosen : AreChosen m face chain first last
  pub divided : IsDividedIn m (after m (Divide face chain numbers parcel label source)) face (Parcel parcel) chain first last
  pub added_are : added ≡ strings_along (source ∷ []) numbers chain
  pub path_is : path ≡ map forward_of numbers

module _ {m : Map} {face : Face} {numbers : List ℕ} {added : List StringRow} {parcel : ℕ} {path : List Half} where
  -- the map with the chain
  abbrev pub divided : IsDividing m face numbers added parcel path → Map
  divided is = after m (Divide face is.chain numbers parcel is.label is.source)

  -- the rings but the one that is cut, where they go
  abbrev pub rings_beside : IsDividing m face numbers added parcel path → List Boundary
  rings_beside is = map (hole_placed m face (Parcel parcel) (left_of_chain is.chain is.first is.last is.divided.cut.ring)) (uncut m is.first)

-- The map is that after a division which was tried; there is room for the halves that are kept of
-- its rings, and those of the rings that pass over are at hand.
pub record CanUndivide (face : Face) (numbers : List ℕ) (parcel : ℕ) (path moved : List Half)
    (rows : MapRows) (table : HalfRows) (held : Held Half) (stars : Held Spoke) : Type 0 where
  pub map : Map
  pub added : List StringRow
  pub is : IsDividing map face numbers added parcel path
  pub fits : FitMap (divided is) rows table held stars
  pub moved_are : AreOfRings (divided is) table moved (Parcel parcel) (rings_beside is)
  pub inner_room : HasRoomAt held (face_place (Parcel parcel)) (length (items_at held (face_place face)))
  pub outer_room : HasRoomAt held (face_place face) (length (items_at held (face_place (Parcel parcel))) + 1)

-- The division is tried, with the rows that it brings: the table has none of the strings yet. The
-- halves that leave the two corners, and those of the rings that pass over, are at hand.
pub record CanBeginDivide (face : Face) (added : List StringRow) (parcel : ParcelRow) (path : List Half) (start end : Half) (moved : List Half)
    (rows : MapRows) (table : HalfRows) (held : Held Half) (stars : Held Spoke) : Type 0 where
  pub map : Map
  pub numbers : List ℕ
  pub is : IsDividing map face numbers added parcel.number path
  pub label_is : parcel.label ≡ is.label
  pub sources_are : parcel.sources ≡ is.source ∷ []
  pub fits : FitMap map rows table held stars
  pub new : AreNew table added
  pub start_on : IsAlong map table (leaving is.first) start
  pub end_on : IsAlong map table (leaving is.last) end
  pub moved_in : AreIn table moved
  pub moved_are : AreOfRings (divided is) table moved (Parcel parcel.number) (rings_beside is)

-- The map is that after a division which was tried, and the halves of the rings that passed over are
-- at hand.
pub record CanBeginUndivide (face : Face) (numbers : List ℕ) (parcel : ℕ) (path moved : List Half)
    (rows : MapRows) (table : HalfRows) (held : Held Half) (stars : Held Spoke) : Type 0 where
  pub map : Map
  pub added : List StringRow
  pub is : IsDividing map face numbers added parcel path
  pub fits : FitMap (divided is) rows table held stars
  pub moved_are : AreOfRings (divided is) table moved (Parcel parcel) (rings_beside is)
