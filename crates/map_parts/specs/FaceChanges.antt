-- What a table and the kept halves are asked for, and what becomes of them, where the rings of two
-- faces change: by a chain that is brought across a face, or taken out, and by an island that is
-- brought into it, or taken out.
use Rattle.std.specs.Prelude.{◌≡◌, ◌≢◌, ◌≤◌, ◌+◌, ℕ, true, false, List, ◌∷◌, length}
use Rattle.std.specs.List.{AllByRecursion}
use Rattle.cad_rings.specs.Cycle.{Ring, Corner, sides_of}
use Rattle.cad_rings.specs.Surgery.{sides_of_chain}
use Rattle.cad_rows.specs.declared.names.Face.{Face}
use Rattle.cad_map.specs.declared.boundary.Boundary.{Boundary}
use Rattle.cad_map.specs.Boundaries.{face_place}
use Rattle.cad_map.specs.Chain.{leaving}
use Rattle.cad_map.specs.Map.{Map, has_face}
use Rattle.cad_map.specs.Rings.{HasWholeRings}
use Rattle.half_table.specs.declared.half.Half.{Half}
use Rattle.half_table.specs.Half.{twin}
use Rattle.half_table.specs.Rows.{HalfRows, IsLinked, next, has}
use Rattle.half_paths.specs.Loose.{AreLoose}
use Rattle.half_paths.specs.Path.{AreIn, AreDifferent, AreElsewhere, last_of}
use Rattle.half_paths.specs.Round.{IsRound}
use Rattle.half_paths.specs.Strung.{IsStrung}
use Rattle.key_lists.specs.Held.{Held, items_at, HasRoomAt}
use Rattle.cad_laws.specs.Local.{IsLocal}
use Rattle.cad_laws.specs.Parting.{IsParted}
use Rattle.map_parts.specs.Chains.{IsChainOf}
use Rattle.map_parts.specs.Handing.{KeepsEach, HaveTwoFaces}
use Rattle.map_parts.specs.Islands.{FitsTable, AreOfRings, IsIslandOf}
use Rattle.map_parts.specs.Labels.{IsAlong}
use Rattle.map_parts.specs.Parts.{HasHalves}
use Rattle.map_parts.specs.Paths.{AreAlong, HasStringsMore}

-- ---- Before

-- a path of loose strings can be brought into the outer face
pub record CanBring (first : Half) (rest : List Half) (outer inner : Face) (moved : List Half) (table : HalfRows) (held : Held Half) : Type 0 where
  pub linked : IsLinked table
  pub within : AreIn table (first ∷ rest)
  pub different : AreDifferent (first ∷ rest)
  pub loose : AreLoose (next table) (first ∷ rest)
  pub moved_in : AreIn table moved
  pub kept_in : AreIn table (items_at held (face_place outer))
  pub faces : face_place outer ≢ face_place inner
  pub inner_room : HasRoomAt held (face_place inner) (length (items_at held (face_place outer)) + 1)
  pub outer_room : HasRoomAt held (face_place outer) 1

-- a place for a path: before two different halves of the table, neither of them the path's own
pub record IsPlaceFor (path : List Half) (start end : Half) (table : HalfRows) : Type 0 where
  pub start_in : has table start ≡ true
  pub end_in : has table end ≡ true
  pub start_away : AreElsewhere start path
  pub end_away : AreElsewhere end path
  pub differ : start ≢ end

-- a path of loose strings can be brought to its place
pub record CanBringChain (path : List Half) (start end : Half) (table : HalfRows) : Type 0 where
  pub linked : IsLinked table
  pub within : AreIn table path
  pub different : AreDifferent path
  pub loose : AreLoose (next table) path
  pub place : IsPlaceFor path start end table

-- and that across the outer face
pub record CanBringAcross (first : Half) (rest : List Half) (start end : Half) (outer inner : Face) (moved : List Half)
    (table : HalfRows) (held : Held Half) : Type 0 where
  pub path : CanBring first rest outer inner moved table held
  pub place : IsPlaceFor (first ∷ rest) start end table

-- a path that parts the two faces can be taken out
pub record CanTake (first : Half) (rest : List Half) (outer inner : Face) (moved : List Half) (table : HalfRows) (held : Held Half) : Type 0 where
  pub linked : IsLinked table
  pub within : AreIn table (first ∷ rest)
  pub different : AreDifferent (first ∷ rest)
  pub moved_in : AreIn table moved
  pub outer_in : AreIn table (items_at held (face_place outer))
  pub inner_in : AreIn table (items_at held (face_place inner))
  pub faces : face_place outer ≢ face_place inner
  pub inner_room : HasRoomAt held (face_place inner) (length (items_at held (face_place outer)))
  pub outer_room : HasRoomAt held (face_place outer) (length (items_at held (face_place inner)))

-- the path is strung together, and tied to other strings at both ends
pub record IsTied (first : Half) (rest : List Half) (table : HalfRows) : Type 0 where
  pub strung : IsStrung (next table) first rest
  pub on_away : AreElsewhere (next table (last_of first rest)) (first ∷ rest)
  pub back_away : AreElsewhere (next table (twin first)) (first ∷ rest)

-- such a path can be taken out
pub record CanTakeChain (first : Half) (rest : List Half) (table : HalfRows) : Type 0 where
  pub linked : IsLinked table
  pub within : AreIn table (first ∷ rest)
  pub different : AreDifferent (first ∷ rest)
  pub tied : IsTied first rest table

-- and so can one that parts the two faces
pub record CanTakeAcross (first : Half) (rest : List Half) (outer inner : Face) (moved : List Half)
    (table : HalfRows) (held : Held Half) : Type 0 where
  pub path : CanTake first rest outer inner moved table held
  pub tied : IsTied first rest table
  pub one_more : HasRoomAt held (face_place outer) (length (items_at held (face_place inner)) + 1)

-- or an island, tied to itself
pub record CanTakeOut (first : Half) (rest : List Half) (outer inner : Face) (moved : List Half)
    (table : HalfRows) (held : Held Half) : Type 0 where
  pub path : CanTake first rest outer inner moved table held
  pub round : IsRound (next table) first rest

-- ---- After

-- A table that is local to a map is local to the map that has the chain more, before the halves that
-- leave its corners.
abbrev pub IsLocalWithChain : List Half → Half → Half → HalfRows → HalfRows → Type 0
IsLocalWithChain path start end old new =
    (whole parted : Map) (chain : List ℕ) (first_corner last_corner : Corner)
    → HasWholeRings whole → HasWholeRings parted → 2 ≤ length chain
    → IsParted whole parted chain first_corner last_corner
    → HasStringsMore whole parted path → AreAlong old path (sides_of_chain chain)
    → AllByRecursion (HasHalves old) parted.strings
    → IsAlong whole old (leaving first_corner) start → IsAlong whole old (leaving last_corner) end
    → IsLocal whole old → IsLocal parted new

-- A table that is local to a map with a chain more is local to the map without it.
abbrev pub IsLocalWithoutChain : List Half → HalfRows → HalfRows → Type 0
IsLocalWithoutChain path old new =
    (whole parted : Map) (chain : List ℕ) (first_corner last_corner : Corner)
    → HasWholeRings parted → 2 ≤ length chain
    → IsParted whole parted chain first_corner last_corner
    → HasStringsMore whole parted path → AreAlong old path (sides_of_chain chain)
    → IsLocal parted old → IsLocal whole new

-- the table goes with the map, and one half is kept of each of its rings
abbrev pub GoesWith : Map → HalfRows → Held Half → Type 0
GoesWith m table held = FitsTable m table × KeepsEach m table held

-- The second map has a chain more, across a ring of the outer face: the path leads along it, and the
-- moved halves are of the inner face's other rings.
pub record HasChainMore (whole parted : Map) (outer inner : Face) (path moved : List Half) (table : HalfRows) : Type 0 where
  pub chain : List ℕ
  pub first_corner : Corner
  pub last_corner : Corner
  pub one : Boundary
  pub left : Boundary
  pub right : Boundary
  pub others : List Boundary
  pub rings : HasWholeRings whole
  pub parts : HasWholeRings parted
  pub long : 2 ≤ length chain
  pub is : IsChainOf whole parted outer inner chain first_corner last_corner one left right others
  pub two : HaveTwoFaces whole parted outer inner
  pub more : HasStringsMore whole parted path
  pub along : AreAlong table path (sides_of_chain chain)
  pub of : AreOfRings parted table moved inner others

-- The second map has an island more, in the outer face: the path leads round it, and the moved halves
-- are of the inner face's other rings.
pub record HasIslandMore (whole parted : Map) (outer inner : Face) (path moved : List Half) (table : HalfRows) : Type 0 where
  pub ring : Ring
  pub left : Boundary
  pub right : Boundary
  pub others : List Boundary
  pub rings : HasWholeRings whole
  pub parts : HasWholeRings parted
  pub is : IsIslandOf whole parted outer inner ring left right others
  pub two : HaveTwoFaces whole parted outer inner
  pub more : HasStringsMore whole parted path
  pub along : AreAlong table path (sides_of ring)
  pub of : AreOfRings parted table moved inner others

-- A table and kept halves that go with a map go with the map that has the chain more.
abbrev pub GoesWithChain : List Half → Half → Half → Face → Face → List Half → HalfRows → Held Half → HalfRows → Held Half → Type 0
GoesWithChain path start end outer inner moved old held new put =
    (whole parted : Map) (its : HasChainMore whole parted outer inner path moved old)
    → has_face whole inner ≡ false → AllByRecursion (HasHalves old) parted.strings
    → IsAlong whole old (leaving its.first_corner) start → IsAlong whole old (leaving its.last_corner) end
    → GoesWith whole old held → GoesWith parted new put

-- Those that go with a map with a chain more go with the map without it.
abbrev pub GoesWithoutChain : List Half → Face → Face → List Half → HalfRows → Held Half → HalfRows → Held Half → Type 0
GoesWithoutChain path outer inner moved old held new put =
    (whole parted : Map) → HasChainMore whole parted outer inner path moved old
    → AllByRecursion (HasHalves old) whole.strings
    → GoesWith parted old held → GoesWith whole new put

-- A table and kept halves that go with a map go with that map and the island.
abbrev pub GoesWithIsland : List Half → Face → Face → List Half → HalfRows → Held Half → HalfRows → Held Half → Type 0
GoesWithIsland path outer inner moved old held new put =
    (whole parted : Map) → HasIslandMore whole parted outer inner path moved old
    → has_face whole inner ≡ false → AllByRecursion (HasHalves old) parted.strings
    → GoesWith whole old held → GoesWith parted new put

-- Those that go with a map and an island go with the map without it.
abbrev pub GoesWithoutIsland : List Half → Face → Face → List Half → HalfRows → Held Half → HalfRows → Held Half → Type 0
GoesWithoutIsland path outer inner moved old held new put =
    (whole parted : Map) (its : HasIslandMore whole parted outer inner path moved old)
    → 2 ≤ length its.ring → AllByRecursion (HasHalves old) whole.strings
    → GoesWith parted old held → GoesWith whole new put
