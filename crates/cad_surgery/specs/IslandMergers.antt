-- A merger round an island: the halves that it goes by.
use Rattle.std.specs.Prelude.{◌≡◌, ℕ, List, map, filter, IsPermutation}
use Rattle.cad_rows.specs.declared.names.Face.{Face}
use Rattle.cad_rows.specs.declared.names.Face.TheVariants.{Parcel}
use Rattle.cad_rings.specs.Cycle.{sides_of}
use Rattle.cad_map.specs.Boundaries.{is_face}
use Rattle.cad_map.specs.Chain.{start_of, next_of}
use Rattle.cad_map.specs.Map.{Map}
use Rattle.half_table.specs.declared.half.Half.{Half}
use Rattle.half_table.specs.Rows.{HalfRows, origin_of}
use Rattle.edit_records.specs.HeldChains.{NamesRings, rings_beside}
use Rattle.map_parts.specs.Handing.{home_of}
use Rattle.map_parts.specs.Islands.{AreOfRings}
use Rattle.map_parts.specs.MergingIsland.{IsMergingIsland, rings_apart}
use Rattle.map_parts.specs.Paths.{AreAlong}

-- In a table that goes with the map, the halves round the ring that the two share, as the ended
-- parcel has it, and one half of each other ring of that parcel.
pub record HasSharedRing (m : Map) (rows : HalfRows) (kept : Face) (ended : ℕ) (path moved : List Half) : Type 0 where
  pub points : List ℕ
  pub is : IsMergingIsland m kept ended points path
  pub along : AreAlong rows path (sides_of points)
  pub moved_are : AreOfRings m rows moved (Parcel ended) (rings_apart is)
  pub once : IsPermutation (map (home_of m rows) moved) (filter (λ b. is_face (Parcel ended) b.face) (rings_apart is))
  pub named : NamesRings m moved (rings_beside m (Parcel ended) (start_of points, next_of points))

-- What a merger round an island goes by, found in a table that goes with the map, with the ring's
-- points from where the path begins.
pub record HasFoundRing (m : Map) (rows : HalfRows) (kept : Face) (ended : ℕ) (path : List Half) (points : List ℕ) (moved : List Half) : Type 0 where
  pub merger : HasSharedRing m rows kept ended path moved
  pub points_are : points ≡ map (origin_of rows) path
