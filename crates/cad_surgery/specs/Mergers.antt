-- A merger along a chain: the halves that it goes by.
use Rattle.std.specs.Prelude.{◌≡◌, ℕ, ◌+◌, List, map, filter, length, IsPermutation}
use Rattle.cad_rows.specs.declared.names.Face.{Face}
use Rattle.cad_rows.specs.declared.names.Face.TheVariants.{Parcel}
use Rattle.cad_rings.specs.Surgery.{sides_of_chain}
use Rattle.cad_map.specs.Boundaries.{is_face}
use Rattle.cad_map.specs.Chain.{leaving}
use Rattle.cad_map.specs.Map.{Map}
use Rattle.half_table.specs.declared.half.Half.{Half}
use Rattle.half_table.specs.Rows.{HalfRows}
use Rattle.edit_records.specs.HeldChains.{HeldChain, IsSharedAlong}
use Rattle.map_parts.specs.Handing.{home_of}
use Rattle.map_parts.specs.Islands.{AreOfRings}
use Rattle.map_parts.specs.Labels.{IsAlong}
use Rattle.map_parts.specs.Merging.{IsMerging, merged, shared_chain, first_corner, last_corner, rings_past}
use Rattle.map_parts.specs.Paths.{AreAlong}

-- In a table that goes with the map, the halves along the chain that the two share, those that
-- follow its two ends, and one half of each other ring of the ended parcel.
pub record HasSharedPath (m : Map) (rows : HalfRows) (kept : Face) (ended : ℕ) (path : List Half) (start end : Half) (moved : List Half) : Type 0 where
  pub is : IsMerging m kept ended path
  pub leads : AreAlong rows path (sides_of_chain (shared_chain is))
  pub start_on : IsAlong (merged is) rows (leaving (first_corner is)) start
  pub end_on : IsAlong (merged is) rows (leaving (last_corner is)) end
  pub moved_are : AreOfRings m rows moved (Parcel ended) (rings_past is)
  pub once : IsPermutation (map (home_of m rows) moved) (filter (λ b. is_face (Parcel ended) b.face) (rings_past is))

-- What a merger along a chain goes by, found in a table that goes with the map, with the chain's
-- points and what its record tells of it.
pub record HasFoundPath (m : Map) (rows : HalfRows) (kept : Face) (ended : ℕ) (path : List Half) (chain : List ℕ) (start end : Half) (moved : List Half) : Type 0 where
  pub merger : HasSharedPath m rows kept ended path start end moved
  pub along : AreAlong rows path (sides_of_chain chain)
  pub long : length chain ≡ length path + 1
  pub shared : IsSharedAlong m kept (Parcel ended) chain
  pub held : HeldChain m (Parcel ended) chain start end moved
