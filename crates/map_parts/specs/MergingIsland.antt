-- A merger of two parcels round an island, made in place and taken back.
use Rattle.std.specs.Prelude.{◌≡◌, ℕ, ◌+◌, List, length, slice_get, Some, IsPermutation}
use Rattle.std.specs.List.{AllByRecursion, Contains}
use Rattle.cad_rows.specs.declared.edits.Edit.TheVariants.{Merge}
use Rattle.cad_rows.specs.declared.names.Face.{Face}
use Rattle.cad_rows.specs.declared.names.Face.TheVariants.{Parcel}
use Rattle.cad_rows.specs.declared.rows.ParcelRow.{ParcelRow}
use Rattle.cad_rings.specs.Cycle.{Ring, IsSameRing, sides_of}
use Rattle.cad_map.specs.declared.boundary.Boundary.{Boundary}
use Rattle.cad_map.specs.Boundaries.{face_place}
use Rattle.cad_map.specs.Effects.{after}
use Rattle.cad_map.specs.Map.{Map}
use Rattle.cad_map.specs.Merger.{shared_chains}
use Rattle.cad_map.specs.Merger.ChainInRings.{around}
use Rattle.half_table.specs.declared.half.Half.{Half}
use Rattle.half_table.specs.Rows.{HalfRows, next}
use Rattle.half_paths.specs.Loose.{AreLoose, AreNew, numbers_of}
use Rattle.half_paths.specs.Path.{AreIn, strings_of}
use Rattle.key_lists.specs.Held.{Held, items_at, HasRoomAt}
use Rattle.cad_laws.specs.Counts.{shared_strings}
use Rattle.cad_laws.specs.Tried.{IsTried}
use Rattle.map_parts.specs.declared.edits.placed_strings.PlacedString.{PlacedString}
use Rattle.cad_map.specs.declared.map_rows.MapRows.{MapRows}
use Rattle.map_parts.specs.declared.stars.Spoke.{Spoke}
use Rattle.map_parts.specs.Parts.{HasHalves}
use Rattle.map_parts.specs.Paths.{AreAlong}
use Rattle.map_parts.specs.Islands.{AreOfRings, IsTakenIsland}
use Rattle.map_parts.specs.Merging.{rows_gone, sides_led, StoodThere, HaveRoomBack}
use Rattle.map_parts.specs.PlacedStrings.{numbers_placed, StoodIn}
use Rattle.map_parts.specs.Splitting.{FitMap}

-- The merger of two parcels round an island is tried: the ended one's ring leads round these points,
-- and the path has the strings that the two share.
pub record IsMergingIsland (m : Map) (keeper : Face) (ended : ℕ) (points : List ℕ) (path : List Half) : Type 0 where
  pub tried : IsTried m (Merge keeper (Parcel ended))
  pub kept_ring : Ring
  pub ended_ring : Ring
  pub there : Contains (shared_chains m keeper (Parcel ended)) (around kept_ring ended_ring)
  pub leads : IsSameRing points ended_ring
  pub taken : IsTakenIsland m (after m (Merge keeper (Parcel ended))) keeper (Parcel ended) points kept_ring ended_ring
  pub shared : IsPermutation (numbers_of (shared_strings m keeper (Parcel ended))) (strings_of path)

module _ {m : Map} {keeper : Face} {ended : ℕ} {points : List ℕ} {path : List Half} where
  -- the map without the island
  abbrev pub without_island : IsMergingIsland m keeper ended points path → Map
  without_island is = after m (Merge keeper (Parcel ended))

  -- the rings but the two round it
  abbrev pub rings_apart : IsMergingIsland m keeper ended points path → List Boundary
  rings_apart is = is.taken.0

-- The merger is tried: the halves of the path lead round the points, and those of the ended parcel's
-- rings that pass over are at hand.
pub record CanBeginMergeIsland (keeper : Face) (ended : ℕ) (strings : List ℕ) (path moved : List Half)
    (rows : MapRows) (table : HalfRows) (held : Held Half) (stars : Held Spoke) : Type 0 where
  pub map : Map
  pub points : List ℕ
  pub is : IsMergingIsland map keeper ended points path
  pub strings_are : strings ≡ strings_of path
  pub fits : FitMap map rows table held stars
  pub along : AreAlong table path (sides_of points)
  pub moved_are : AreOfRings map table moved (Parcel ended) (rings_apart is)

-- The map is that after a merger which was tried, and the rows that went are at hand with their
-- places: the strings are in the table, loose, there is room for all that comes back, and the halves
-- of the rings that pass over are at hand.
pub record CanUnmergeIsland (keeper : Face) (row : ParcelRow) (place : ℕ) (path moved : List Half) (gone : List PlacedString)
    (rows : MapRows) (table : HalfRows) (held : Held Half) (stars : Held Spoke) : Type 0 where
  pub map : Map
  pub points : List ℕ
  pub is : IsMergingIsland map keeper row.number points path
  pub fits : FitMap (without_island is) rows table held stars
  pub there : AllByRecursion (λ (g : PlacedString). HasHalves table g.row) gone
  pub loose : AreLoose (next table) path
  pub along : AreAlong table path (sides_of points)
  pub moved_are : AreOfRings map table moved (Parcel row.number) (rings_apart is)
  pub went : StoodThere map (strings_of path) row place gone
  pub room : HaveRoomBack row gone rows stars
  pub inner_room : HasRoomAt held (face_place (Parcel row.number)) (length (items_at held (face_place keeper)) + 1)
  pub outer_room : HasRoomAt held (face_place keeper) 1

-- The map is that after a merger which was tried, and the rows that went are at hand with their
-- places: the table has none of the strings. So are the halves of the rings that pass over.
pub record CanBeginUnmergeIsland (keeper : Face) (row : ParcelRow) (place : ℕ) (path moved : List Half) (gone : List PlacedString)
    (rows : MapRows) (table : HalfRows) (held : Held Half) (stars : Held Spoke) : Type 0 where
  pub map : Map
  pub points : List ℕ
  pub is : IsMergingIsland map keeper row.number points path
  pub fits : FitMap (without_island is) rows table held stars
  pub new : AreNew table (rows_gone gone)
  pub sides : sides_led path (rows_gone gone) ≡ sides_of points
  pub moved_in : AreIn table moved
  pub moved_are : AreOfRings map table moved (Parcel row.number) (rings_apart is)
  pub numbers_are : numbers_placed gone ≡ strings_of path
  pub stood : StoodIn map.strings gone
  pub at : slice_get map.parcels place ≡ Some row
