-- An enclosure, made in place and taken back.
use Rattle.std.specs.Prelude.{◌≡◌, ℕ, List, [], ◌∷◌, ◌++◌, map, length}
use Rattle.cad_rows.specs.declared.edits.Edit.TheVariants.{Enclose}
use Rattle.cad_rows.specs.declared.names.Face.{Face}
use Rattle.cad_rows.specs.declared.names.Face.TheVariants.{Parcel}
use Rattle.cad_rows.specs.declared.rows.ParcelRow.{ParcelRow}
use Rattle.cad_rows.specs.declared.rows.StringRow.{StringRow}
use Rattle.cad_map.specs.declared.boundary.Boundary.{Boundary}
use Rattle.cad_map.specs.Boundaries.{face_place}
use Rattle.cad_map.specs.Chain.{start_of, strings_along}
use Rattle.cad_map.specs.Division.{hole_placed}
use Rattle.cad_map.specs.Effects.{after}
use Rattle.cad_map.specs.Map.{Map}
use Rattle.half_table.specs.declared.half.Half.{Half}
use Rattle.half_table.specs.Half.{forward_of}
use Rattle.half_table.specs.Rows.{HalfRows}
use Rattle.half_paths.specs.Loose.{AreNew}
use Rattle.key_lists.specs.Held.{Held, items_at, HasRoomAt}
use Rattle.cad_laws.specs.Tried.{IsTried}
use Rattle.cad_map.specs.declared.map_rows.MapRows.{MapRows}
use Rattle.map_parts.specs.declared.stars.Spoke.{Spoke}
use Rattle.map_parts.specs.Islands.{AreOfRings}
use Rattle.map_parts.specs.Placed.{AreOfHoles}
use Rattle.map_parts.specs.Splitting.{FitMap}

-- The enclosure of a face is tried, with the strings that it brings, and the halves along the new ring.
pub record IsEnclosing (m : Map) (face : Face) (numbers : List ℕ) (added : List StringRow) (parcel : ℕ) (path : List Half) : Type 0 where
  pub points : List ℕ
  pub label : List ℕ
  pub source : ℕ
  pub tried : IsTried m (Enclose face points numbers parcel label source)
  pub added_are : added ≡ strings_along (source ∷ []) numbers (points ++ start_of points ∷ [])
  pub path_is : path ≡ map forward_of numbers

module _ {m : Map} {face : Face} {numbers : List ℕ} {added : List StringRow} {parcel : ℕ} {path : List Half} where
  -- the map with the island
  abbrev pub enclosed : IsEnclosing m face numbers added parcel path → Map
  enclosed is = after m (Enclose face is.points numbers parcel is.label is.source)

  -- the rings that it had, where they go
  abbrev pub rings_placed : IsEnclosing m face numbers added parcel path → List Boundary
  rings_placed is = map (hole_placed m face (Parcel parcel) is.points) m.boundaries

-- The map is that after an enclosure which was tried; there is room for the halves that are kept of
-- its rings, and those of the rings that pass over are at hand.
pub record CanOpen (face : Face) (numbers : List ℕ) (parcel : ℕ) (path moved : List Half)
    (rows : MapRows) (table : HalfRows) (held : Held Half) (stars : Held Spoke) : Type 0 where
  pub map : Map
  pub added : List StringRow
  pub is : IsEnclosing map face numbers added parcel path
  pub fits : FitMap (enclosed is) rows table held stars
  pub moved_are : AreOfRings (enclosed is) table moved (Parcel parcel) (rings_placed is)
  pub inner_room : HasRoomAt held (face_place (Parcel parcel)) (length (items_at held (face_place face)))
  pub outer_room : HasRoomAt held (face_place face) (length (items_at held (face_place (Parcel parcel))))

-- The enclosure is tried, with the rows that it brings: the table has none of the strings yet, and
-- the halves of the rings that pass over are at hand.
pub record CanBeginEnclose (face : Face) (added : List StringRow) (parcel : ParcelRow) (path moved : List Half)
    (rows : MapRows) (table : HalfRows) (held : Held Half) (stars : Held Spoke) : Type 0 where
  pub map : Map
  pub numbers : List ℕ
  pub is : IsEnclosing map face numbers added parcel.number path
  pub label_is : parcel.label ≡ is.label
  pub sources_are : parcel.sources ≡ is.source ∷ []
  pub fits : FitMap map rows table held stars
  pub new : AreNew table added
  pub holes : AreOfHoles map table face is.points moved

-- The map is that after an enclosure which was tried, and the halves of the rings that passed over
-- are at hand.
pub record CanBeginOpen (face : Face) (numbers : List ℕ) (parcel : ℕ) (path moved : List Half)
    (rows : MapRows) (table : HalfRows) (held : Held Half) (stars : Held Spoke) : Type 0 where
  pub map : Map
  pub added : List StringRow
  pub is : IsEnclosing map face numbers added parcel path
  pub fits : FitMap (enclosed is) rows table held stars
  pub moved_are : AreOfRings (enclosed is) table moved (Parcel parcel) (rings_placed is)
