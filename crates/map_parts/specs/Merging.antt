-- A merger of two parcels along a chain, made in place and taken back.
use Rattle.std.specs.Prelude.{◌≡◌, ◌≢◌, ℕ, ◌+◌, ◌++◌, false, IsSome, if◌then◌else◌, List, [], ◌∷◌, map, length, slice_get, Some, IsPermutation}
use Rattle.std.specs.List.{AllByRecursion, Contains}
use Rattle.cad_rows.specs.declared.edits.Edit.TheVariants.{Merge}
use Rattle.cad_rows.specs.declared.names.Face.{Face}
use Rattle.cad_rows.specs.declared.names.Face.TheVariants.{Parcel}
use Rattle.cad_rows.specs.declared.rows.ParcelRow.{ParcelRow}
use Rattle.cad_rows.specs.declared.rows.StringRow.{StringRow}
use Rattle.cad_rings.specs.Cycle.{Corner, Ring, Side, opposite}
use Rattle.cad_rings.specs.Surgery.{chain_from, sides_of_chain}
use Rattle.cad_map.specs.declared.boundary.Boundary.{Boundary}
use Rattle.cad_map.specs.Boundaries.{face_place}
use Rattle.cad_map.specs.Chain.{leaving}
use Rattle.cad_map.specs.Effects.{after}
use Rattle.cad_map.specs.Map.{Map, side_of, parcel_of, is_retired}
use Rattle.numbered_rows.specs.Rows.{without_row}
use Rattle.cad_map.specs.Valid.{EachPair}
use Rattle.cad_map.specs.Merger.{shared_chains}
use Rattle.cad_map.specs.Merger.ChainInRings.{along}
use Rattle.half_table.specs.declared.half.Half.{Half}
use Rattle.half_table.specs.Rows.{HalfRows, next}
use Rattle.half_paths.specs.Loose.{AreLoose, AreNew, numbers_of}
use Rattle.half_paths.specs.Path.{AreIn, strings_of}
use Rattle.entry_list.specs.Slots.{HasSlot}
use Rattle.key_lists.specs.Held.{Held, items_at, HasRoomAt}
use Rattle.cad_laws.specs.Counts.{shared_strings}
use Rattle.cad_laws.specs.Tried.{IsTried}
use Rattle.map_parts.specs.declared.edits.placed_strings.PlacedString.{PlacedString}
use Rattle.cad_map.specs.declared.map_rows.MapRows.{MapRows}
use Rattle.map_parts.specs.declared.stars.Spoke.{Spoke}
use Rattle.map_parts.specs.Chains.{IsTakenChain}
use Rattle.map_parts.specs.Labels.{IsAlong}
use Rattle.map_parts.specs.Parts.{HasHalves}
use Rattle.map_parts.specs.Paths.{AreAlong}
use Rattle.map_parts.specs.Islands.{AreOfRings}
use Rattle.map_parts.specs.PlacedStrings.{numbers_placed, StoodIn}
use Rattle.map_parts.specs.Splitting.{FitMap, AreStarsOf}
use Rattle.map_parts.specs.StringRows.{HasRoomFor, CanTakeStrings, without_rows}
use Rattle.cad_map.specs.MapRows.{map_in}

-- The merger of two parcels along a chain is tried, and the path has the strings that the two share.
pub record IsMerging (m : Map) (keeper : Face) (ended : ℕ) (path : List Half) : Type 0 where
  pub tried : IsTried m (Merge keeper (Parcel ended))
  pub sides : ℕ
  pub kept_ring : Ring
  pub kept_place : ℕ
  pub ended_ring : Ring
  pub ended_place : ℕ
  pub there : Contains (shared_chains m keeper (Parcel ended)) (along sides kept_ring kept_place ended_ring ended_place)
  pub taken : IsTakenChain m (after m (Merge keeper (Parcel ended))) keeper (Parcel ended) sides kept_ring kept_place ended_ring ended_place
  pub shared : IsPermutation (numbers_of (shared_strings m keeper (Parcel ended))) (strings_of path)

module _ {m : Map} {keeper : Face} {ended : ℕ} {path : List Half} where
  -- the map without the chain
  abbrev pub merged : IsMerging m keeper ended path → Map
  merged is = after m (Merge keeper (Parcel ended))

  -- the chain, as the ended parcel's ring leads along it
  abbrev pub shared_chain : IsMerging m keeper ended path → List ℕ
  shared_chain is = chain_from is.ended_place is.sides is.ended_ring

  -- the corners where it comes, in the map without it
  abbrev pub first_corner : IsMerging m keeper ended path → Corner
  first_corner is = is.taken.0

  abbrev pub last_corner : IsMerging m keeper ended path → Corner
  last_corner is = is.taken.1

  -- the rings but the two along it
  abbrev pub rings_past : IsMerging m keeper ended path → List Boundary
  rings_past is = is.taken.2

-- The merger is tried: the halves of the path lead along the chain, and those of the ended parcel's
-- rings that pass over are at hand.
pub record CanBeginMerge (keeper : Face) (ended : ℕ) (strings : List ℕ) (path moved : List Half)
    (rows : MapRows) (table : HalfRows) (held : Held Half) (stars : Held Spoke) : Type 0 where
  pub map : Map
  pub is : IsMerging map keeper ended path
  pub strings_are : strings ≡ strings_of path
  pub fits : FitMap map rows table held stars
  pub leads : AreAlong table path (sides_of_chain (shared_chain is))
  pub moved_are : AreOfRings map table moved (Parcel ended) (rings_past is)

-- the rows of strings that went
abbrev pub rows_gone : List PlacedString → List StringRow
rows_gone gone = map (λ (g : PlacedString). g.row) gone

-- a string's row without its sources
abbrev pub bare_row : StringRow → StringRow
bare_row r = record r { sources = [] }

-- the sides along which strings lead, as these halves of them do
abbrev pub sides_led : List Half → List StringRow → List Side
sides_led (h ∷ path) (r ∷ rows) =
    (if h.forward then side_of r else opposite (side_of r)) ∷ sides_led path rows
sides_led path rows = []

-- A parcel and strings stood in the rows of a map, each at its place.
pub record StoodThere (m : Map) (strings : List ℕ) (parcel : ParcelRow) (place : ℕ) (gone : List PlacedString) : Type 0 where
  -- the parcel's row stood at the place
  pub row : slice_get m.parcels place ≡ Some parcel
  -- the strings are these, in this order
  pub numbers : numbers_placed gone ≡ strings
  -- each stood at its place when those before it were out
  pub stood : StoodIn m.strings gone

-- A parcel and strings went from the rows of a map, and these are their rows, with their places.
pub record HaveGone (m : Map) (ended : ℕ) (strings : List ℕ) (parcel : ParcelRow) (place : ℕ) (gone : List PlacedString) : Type 0 where
  -- the parcel's row stood at the place
  pub row : slice_get m.parcels place ≡ Some parcel
  -- it is the row of that parcel
  pub found : parcel_of m ended ≡ Some parcel
  -- the strings are these, in this order
  pub numbers : numbers_placed gone ≡ strings
  -- each stood at its place when those before it were out
  pub stood : StoodIn m.strings gone

-- rows that went can come back without memory, and so can the halves of the strings
pub record HaveRoomBack (parcel : ParcelRow) (gone : List PlacedString) (rows : MapRows) (stars : Held Spoke) : Type 0 where
  -- the parcel's number has a slot
  pub slot : HasSlot rows.parcels parcel.number
  -- each string's number has one
  pub slots : AllByRecursion (λ (g : PlacedString). HasSlot rows.strings g.row.number) gone
  -- at the ends of the strings there is room for their halves
  pub star_room : HasRoomFor (rows_gone gone) stars

-- the rows without a parcel, whose number is retired, and without strings
abbrev pub without_ended : ℕ → List ℕ → Map → Map
without_ended ended strings m = record m {
  strings = without_rows strings m.strings;
  parcels = without_row (λ r. r.number) ended m.parcels;
  retired = m.retired ++ ended ∷ [];
  boundaries = [];
}

-- a parcel that can go from the rows, and strings that can
pub record CanEnd (ended : ℕ) (strings : List ℕ) (rows : MapRows) (stars : Held Spoke) : Type 0 where
  -- the parcel is there
  pub there : IsSome (parcel_of (map_in rows) ended)
  -- its number isn't retired yet
  pub fresh : is_retired (map_in rows) ended ≡ false
  -- the strings can go, with their spokes
  pub take : CanTakeStrings strings rows stars

-- a parcel and strings that went from the rows of a map, and nothing else did, with room for them
pub record CanComeBack (row : ParcelRow) (place : ℕ) (gone : List PlacedString) (rows : MapRows) (stars : Held Spoke) : Type 0 where
  pub before : Map
  pub strings_differ : EachPair (λ a b. a ≢ b) (map (λ (s : StringRow). s.number) before.strings)
  pub parcels_differ : EachPair (λ a b. a ≢ b) (map (λ (p : ParcelRow). p.number) before.parcels)
  pub two : AllByRecursion (λ (s : StringRow). s.from ≢ s.to) before.strings
  pub fresh : is_retired before row.number ≡ false
  pub stood : StoodIn before.strings gone
  pub at : slice_get before.parcels place ≡ Some row
  pub left : map_in rows ≡ without_ended row.number (numbers_placed gone) before
  pub stars_are : AreStarsOf (map_in rows).strings stars
  pub room : HaveRoomBack row gone rows stars

-- The map is that after a merger which was tried, and the rows that went are at hand with their
-- places: the strings are in the table, loose, there is room for all that comes back, and so are the
-- halves that leave the two corners, and those of the rings that pass over.
pub record CanUnmerge (keeper : Face) (row : ParcelRow) (place : ℕ) (path : List Half) (start end : Half) (moved : List Half) (gone : List PlacedString)
    (rows : MapRows) (table : HalfRows) (held : Held Half) (stars : Held Spoke) : Type 0 where
  pub map : Map
  pub is : IsMerging map keeper row.number path
  pub fits : FitMap (merged is) rows table held stars
  pub there : AllByRecursion (λ (g : PlacedString). HasHalves table g.row) gone
  pub loose : AreLoose (next table) path
  pub leads : AreAlong table path (sides_of_chain (shared_chain is))
  pub start_on : IsAlong (merged is) table (leaving (first_corner is)) start
  pub end_on : IsAlong (merged is) table (leaving (last_corner is)) end
  pub moved_are : AreOfRings map table moved (Parcel row.number) (rings_past is)
  pub went : StoodThere map (strings_of path) row place gone
  pub room : HaveRoomBack row gone rows stars
  pub inner_room : HasRoomAt held (face_place (Parcel row.number)) (length (items_at held (face_place keeper)) + 1)
  pub outer_room : HasRoomAt held (face_place keeper) 1

-- The map is that after a merger which was tried, and the rows that went are at hand with their
-- places: the table has none of the strings. So are the halves that leave the two corners, and those
-- of the rings that pass over.
pub record CanBeginUnmerge (keeper : Face) (row : ParcelRow) (place : ℕ) (path : List Half) (start end : Half) (moved : List Half) (gone : List PlacedString)
    (rows : MapRows) (table : HalfRows) (held : Held Half) (stars : Held Spoke) : Type 0 where
  pub map : Map
  pub is : IsMerging map keeper row.number path
  pub fits : FitMap (merged is) rows table held stars
  pub new : AreNew table (rows_gone gone)
  pub sides : sides_led path (rows_gone gone) ≡ sides_of_chain (shared_chain is)
  pub start_on : IsAlong (merged is) table (leaving (first_corner is)) start
  pub end_on : IsAlong (merged is) table (leaving (last_corner is)) end
  pub moved_in : AreIn table moved
  pub moved_are : AreOfRings map table moved (Parcel row.number) (rings_past is)
  pub numbers_are : numbers_placed gone ≡ strings_of path
  pub stood : StoodIn map.strings gone
  pub at : slice_get map.parcels place ≡ Some row
