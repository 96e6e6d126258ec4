-- A merger round an island on a map on half-edges that is made in place, and taken back.
use Rattle.std.proofs.Common.{ℕ, ◌≤◌, refl, subst, List, ◌∷◌, length}
use Rattle.std.specs.List.{Contains}
use Rattle.std.proofs.lemmas.List.Sorted.{IsPermutation-sym, Contains-permutation}
use Rattle.cad_rows.specs.declared.names.Face.{Face}
use Rattle.cad_rows.specs.declared.names.Face.TheVariants.{Parcel}
use Rattle.cad_rows.specs.declared.rows.ParcelRow.{ParcelRow}
use Rattle.cad_rings.proofs.CallerLemmas.{IsSameRing-length}
use Rattle.cad_map.specs.Boundaries.{bounding}
use Rattle.cad_map.specs.Map.{Map}
use Rattle.cad_map.proofs.CallerLemmas.{All-at_each, Contains-first}
use Rattle.half_table.specs.declared.half.Half.{Half}
use Rattle.half_table.specs.Rows.{HalfRows}
use Rattle.key_lists.specs.Held.{Held, IsSame}
use Rattle.cad_laws.proofs.CallerLemmas.{two-sides}
use Rattle.cad_rings.specs.Cycle.{sides_of}
use Rattle.map_parts.specs.declared.edits.placed_strings.PlacedString.{PlacedString}
use Rattle.cad_map.specs.declared.map_rows.MapRows.{MapRows}
use Rattle.map_parts.specs.declared.stars.Spoke.{Spoke}
use Rattle.map_parts.specs.Adding.{HasRoomToExchange}
use Rattle.map_parts.specs.Paths.{AreAlong}
use Rattle.map_parts.specs.Islands.{IsIslandOf, AreOfRings}
use Rattle.map_parts.specs.FaceChanges.{CanBring, CanTakeOut, GoesWith, GoesWithIsland, GoesWithoutIsland, HasIslandMore}
use Rattle.map_parts.specs.Splitting.{FitMap}
use Rattle.map_parts.specs.MergingIsland.{IsMergingIsland, without_island, rings_apart, CanBeginMergeIsland, CanUnmergeIsland}
use Rattle.map_parts.proofs.IslandFits.{round-inside}
use Rattle.map_parts.proofs.MergedRows as rows_of
use Rattle.map_parts.proofs.RoomMade.{fit-grown}

module _ (m : Map) (keeper : Face) (ended : ℕ) (points : List ℕ) (path : List Half) (is : IsMergingIsland m keeper ended points path) where
  pub island : IsIslandOf (without_island is) m keeper (Parcel ended) points (bounding (Parcel ended) is.ended_ring) (bounding keeper is.kept_ring) (rings_apart is)
  island = is.taken.1

  -- the ended ring is one of the map
  pub ring-there : Contains m.boundaries (bounding (Parcel ended) is.ended_ring)
  ring-there =
      let left = bounding (Parcel ended) is.ended_ring in
      let others = bounding keeper is.kept_ring ∷ rings_apart is in
      Contains-permutation (left ∷ others) m.boundaries left (IsPermutation-sym m.boundaries (left ∷ others) island.were) (Contains-first left others)

  pub long : 2 ≤ length points
  long =
      let two = All-at_each (λ b. 2 ≤ length b.ring) m.boundaries (bounding (Parcel ended) is.ended_ring) (two-sides m is.tried.valid) ring-there in
      subst (λ (n : ℕ). 2 ≤ n) (IsSameRing-length points is.ended_ring is.leads) two

  -- in a table with the path round it, the map before it has the island more
  abbrev pub inside : (table : HalfRows) (moved : List Half) → AreAlong table path (sides_of points) → AreOfRings m table moved (Parcel ended) (rings_apart is)
      → HasIslandMore (without_island is) m keeper (Parcel ended) path moved table
  inside table moved along of = record {
    ring = points;
    left = bounding (Parcel ended) is.ended_ring;
    right = bounding keeper is.kept_ring;
    others = rings_apart is;
    rings = rows_of.parts m keeper ended path is.tried is.shared;
    parts = rows_of.whole m keeper ended path is.tried is.shared;
    is = island;
    two = rows_of.two m keeper ended path is.tried is.shared;
    more = rows_of.more m keeper ended path is.tried is.shared;
    along = along;
    of = of;
  }

-- ---- It is made

module _ {keeper : Face} {ended : ℕ} {strings : List ℕ} {first : Half} {rest moved : List Half} {rows : MapRows} {table : HalfRows}
    {held : Held Half} {stars : Held Spoke} (c : CanBeginMergeIsland keeper ended strings (first ∷ rest) moved rows table held stars)
    {wide : Held Half} (alike : IsSame held wide) (room : HasRoomToExchange keeper ended wide) where
  fit : FitMap c.map rows table wide stars
  fit = fit-grown c.map c.fits refl alike

  abbrev island_there : HasIslandMore (without_island c.is) c.map keeper (Parcel ended) (first ∷ rest) moved table
  island_there = inside c.map keeper ended c.points (first ∷ rest) c.is table moved c.along c.moved_are

  pub made-can : CanTakeOut first rest keeper (Parcel ended) moved table wide
  made-can = record {
    path = rows_of.can-take c.map keeper ended first rest c.is.tried c.is.shared fit moved (rings_apart c.is) c.moved_are room;
    round = round-inside island_there (long c.map keeper ended c.points (first ∷ rest) c.is) c.fits.fits.local;
  }

  -- the table goes with the map after it
  pub made-table : (done : HalfRows) (put : Held Half) → GoesWithoutIsland (first ∷ rest) keeper (Parcel ended) moved table wide done put → GoesWith (without_island c.is) done put
  made-table done put takes =
      takes (without_island c.is) c.map island_there (long c.map keeper ended c.points (first ∷ rest) c.is)
      (rows_of.ends-left c.map keeper ended (first ∷ rest) c.is.tried c.is.shared table c.fits.fits.ends)
      (rows_of.made-table c.map keeper ended first rest c.is.tried c.is.shared fit, rows_of.made-keeps c.map keeper ended first rest c.is.tried c.is.shared fit)

-- ---- It is taken back

module _ {keeper : Face} {row : ParcelRow} {place : ℕ} {first : Half} {rest moved : List Half} {gone : List PlacedString} {rows : MapRows} {table : HalfRows}
    {held : Held Half} {stars : Held Spoke} (c : CanUnmergeIsland keeper row place (first ∷ rest) moved gone rows table held stars) where
  pub back-can : CanBring first rest keeper (Parcel row.number) moved table held
  back-can = rows_of.can-bring c.map keeper first rest c.is.tried c.is.shared c.went c.fits c.there moved (rings_apart c.is) c.moved_are c.loose c.inner_room c.outer_room

  -- the table goes with the map before it
  pub back-table : (wide : HalfRows) (put : Held Half) → GoesWithIsland (first ∷ rest) keeper (Parcel row.number) moved table held wide put → GoesWith c.map wide put
  back-table wide put brings =
      brings (without_island c.is) c.map (inside c.map keeper row.number c.points (first ∷ rest) c.is table moved c.along c.moved_are) (rows_of.none c.map keeper row.number (first ∷ rest) c.is.tried c.is.shared)
      (rows_of.all-back c.map keeper first rest c.is.tried c.is.shared c.went c.fits c.there)
      (rows_of.last-table c.map keeper first rest c.is.tried c.is.shared c.went c.fits c.there, rows_of.last-keeps c.map keeper first rest c.is.tried c.is.shared c.went c.fits c.there)
