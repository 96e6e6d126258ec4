-- What a record tells of a chain of strings, or of an island, that came into a map or went from it.
use Rattle.std.specs.Prelude.{◌≡◌, ℕ, ◌+◌, ◌&&◌, not, List, [], ◌∷◌, ◌++◌, length, map, filter, slice_get, Some, IsPermutation, if◌then◌else◌}
use Rattle.std.specs.List.{AllByRecursion, Contains}
use Rattle.cad_rows.specs.declared.names.Face.{Face}
use Rattle.cad_rows.specs.declared.names.Face.TheVariants.{Parcel}
use Rattle.cad_rows.specs.declared.rows.ParcelRow.{ParcelRow}
use Rattle.cad_rows.specs.declared.rows.StringRow.{StringRow}
use Rattle.cad_rings.specs.Cycle.{Ring, Side, has_side, opposite, sides_of, IsSameRing}
use Rattle.cad_rings.specs.Surgery.{corner, chain_from}
use Rattle.cad_map.specs.declared.boundary.Boundary.{Boundary}
use Rattle.cad_map.specs.Boundaries.{is_face}
use Rattle.cad_map.specs.Chain.{start_of, next_of, end_of, last_but_one}
use Rattle.cad_map.specs.Map.{Map, string_of, side_of}
use Rattle.cad_map.specs.Merger.{shared_chains}
use Rattle.cad_map.specs.Merger.ChainInRings.{along, around}
use Rattle.half_table.specs.declared.half.Half.{Half}
use Rattle.cad_laws.specs.Counts.{shared_strings}
use Rattle.cad_laws.specs.Parting.{HasCorner}
use Rattle.cad_laws.specs.Taken.{AreAtPlaces}
use Rattle.edit_records.specs.declared.record.ChainString.{ChainString}

-- ---- Halves, by the rows of a map

-- a string forward, from its first point to its second, or back
abbrev pub side_along : StringRow → Half → Side
side_along s h = if h.forward then side_of s else opposite (side_of s)

-- the half leads along the side
pub record LeadsAlong (m : Map) (h : Half) (s : Side) : Type 0 where
  pub row : StringRow
  pub there : string_of m h.string ≡ Some row
  pub is : side_along row h ≡ s

-- the half is of the ring
pub record IsOfRing (m : Map) (b : Boundary) (h : Half) : Type 0 where
  pub side : Side
  pub along : LeadsAlong m h side
  pub on : Contains (sides_of b.ring) side

-- the half follows a side in a ring of the map
pub record Follows (m : Map) (s : Side) (h : Half) : Type 0 where
  pub to : ℕ
  pub along : LeadsAlong m h (s.1, to)
  pub there : HasCorner m (corner s.0 s.1 to)

-- one half of each of these rings
pub record NamesRings (m : Map) (halves : List Half) (rings : List Boundary) : Type 0 where
  pub each : AllByRecursion (λ h. (b : Boundary) × Contains rings b × IsOfRing m b h) halves
  pub all : (b : Boundary) → Contains rings b → (h : Half) × Contains halves h × IsOfRing m b h
  pub as_many : length halves ≡ length rings

-- the rings of the face, without the one that has the side
abbrev pub rings_beside : Map → Face → Side → List Boundary
rings_beside m f s = filter (λ b. is_face f b.face && not (has_side s (sides_of b.ring))) m.boundaries

-- ---- A chain and an island, in the map that has it

-- the points round an island, back to the first
abbrev pub closed : List ℕ → List ℕ
closed points = points ++ start_of points ∷ []

-- The chain has a ring of the face left of it. The one half follows the chain's end on the way
-- back, the other on the way along, and the face's other rings are named.
pub record HeldChain (m : Map) (face : Face) (chain : List ℕ) (start end : Half)
    (moved : List Half) : Type 0 where
  pub start_is : Follows m (next_of chain, start_of chain) start
  pub end_is : Follows m (last_but_one chain, end_of chain) end
  pub moved_are : NamesRings m moved (rings_beside m face (start_of chain, next_of chain))

-- the island's ring of the face leads round these points, and the face's other rings are named
abbrev pub HeldIsland : Map → Face → List ℕ → List Half → Type 0
HeldIsland m face points moved =
    NamesRings m moved (rings_beside m face (start_of points, next_of points))

-- ---- What a merger takes

-- the row of a string between two neighbours of a chain
abbrev pub row_between : ChainString → ℕ → ℕ → StringRow
row_between s a b = record {
  number = s.half.string;
  from = if s.half.forward then a else b;
  to = if s.half.forward then b else a;
  sources = s.sources;
}

-- the rows of strings along a chain
abbrev pub rows_along : List ChainString → List ℕ → List StringRow
rows_along (s ∷ strings) (a ∷ b ∷ points) = row_between s a b ∷ rows_along strings (b ∷ points)
rows_along strings points = []

-- the ended parcel's row was there, and the strings along the chain are those that the two share
pub record HeldMerged (b : Map) (kept : Face) (row : ParcelRow) (place : ℕ)
    (strings : List ChainString) (chain : List ℕ) : Type 0 where
  pub parcel : slice_get b.parcels place ≡ Some row
  pub as_many : length chain ≡ length strings + 1
  pub shared : IsPermutation (rows_along strings chain) (shared_strings b kept (Parcel row.number))
  pub there : AreAtPlaces b.strings (rows_along strings chain) (map (λ s. s.place) strings)

-- two faces share the chain, as the ended one's ring leads along it
pub record IsSharedAlong (b : Map) (kept ended : Face) (chain : List ℕ) : Type 0 where
  pub sides : ℕ
  pub kept_ring : Ring
  pub kept_place : ℕ
  pub ended_ring : Ring
  pub ended_place : ℕ
  pub there : Contains (shared_chains b kept ended)
      (along sides kept_ring kept_place ended_ring ended_place)
  pub is : chain ≡ chain_from ended_place sides ended_ring

-- two faces share a whole ring, as the ended one's leads round these points
pub record IsSharedAround (b : Map) (kept ended : Face) (points : List ℕ) : Type 0 where
  pub kept_ring : Ring
  pub ended_ring : Ring
  pub there : Contains (shared_chains b kept ended) (around kept_ring ended_ring)
  pub is : IsSameRing points ended_ring
