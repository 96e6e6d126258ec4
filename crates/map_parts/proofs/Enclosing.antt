-- An enclosure of a map on half-edges that is made in place, and taken back.
use Rattle.std.proofs.Common.{◌≡◌, ◌≢◌, ℕ, ◌+◌, ◌≤◌, false, refl, ◌∙◌, List, [], ◌∷◌, ◌++◌, map, reverse, length, arith}
use Rattle.std.specs.List.{AllByRecursion}
use Rattle.std.proofs.lemmas.List.{length-append}
use Rattle.cad_rows.specs.declared.edits.Edit.TheVariants.{Enclose}
use Rattle.cad_rows.specs.declared.names.Face.{Face}
use Rattle.cad_rows.specs.declared.names.Face.TheVariants.{Parcel}
use Rattle.cad_rows.specs.declared.rows.ParcelRow.{ParcelRow}
use Rattle.cad_rows.specs.declared.rows.StringRow.{StringRow}
use Rattle.cad_rings.specs.Cycle.{sides_of}
use Rattle.cad_rings.specs.Surgery.{sides_of_chain}
use Rattle.cad_rings.proofs.CallerLemmas.{sides_of_chain-is}
use Rattle.cad_map.specs.Boundaries.{face_place, bounding, canonical_form}
use Rattle.cad_map.specs.Chain.{start_of}
use Rattle.cad_map.specs.Effects.{after}
use Rattle.cad_map.specs.Map.{Map, side_of, has_face}
use Rattle.cad_map.specs.Rings.{HasWholeRings}
use Rattle.cad_map.proofs.CallerLemmas.{CanEnclose as IsAllowed, can-enclose, allowed, whole_valid, pairs-from_distinct}
use Rattle.half_table.specs.declared.half.Half.{Half}
use Rattle.half_table.specs.Rows.{HalfRows}
use Rattle.half_paths.specs.Path.{AreDifferent}
use Rattle.half_paths.specs.Loose.{numbers_of}
use Rattle.key_lists.specs.Held.{Held, IsSame}
use Rattle.cad_laws.specs.Local.{IsShown, side_by}
use Rattle.cad_laws.proofs.CallerLemmas.{whole-after}
use Rattle.cad_map.specs.declared.map_rows.MapRows.{MapRows}
use Rattle.map_parts.specs.declared.stars.Spoke.{Spoke}
use Rattle.map_parts.specs.Adding.{AreAdded, HasRoomToExchange}
use Rattle.map_parts.specs.Parts.{HasHalves}
use Rattle.map_parts.specs.Paths.{AreAlong, HasStringsMore}
use Rattle.map_parts.specs.Islands.{AreOfRings, IsIslandOf}
use Rattle.map_parts.specs.FaceChanges.{CanBring, CanTakeOut, GoesWith, GoesWithIsland, GoesWithoutIsland, HasIslandMore}
use Rattle.map_parts.specs.Handing.{HaveTwoFaces}
use Rattle.map_parts.specs.Enclosing.{IsEnclosing, enclosed, rings_placed, CanBeginEnclose, CanBeginOpen, CanOpen}
use Rattle.map_parts.proofs.AddedMap as added_map
use Rattle.map_parts.proofs.AddedMap.{HaveCome}
use Rattle.map_parts.proofs.ChainRoom.{ring_ends-room}
use Rattle.map_parts.proofs.EnclosedIsland.{tried-island, tried-faces}
use Rattle.map_parts.proofs.IslandFits.{round-inside}
use Rattle.map_parts.proofs.IslandTable.{more-old}
use Rattle.map_parts.proofs.KeptEach.{place-same}
use Rattle.map_parts.proofs.PlacedHalves.{holes-placed}
use Rattle.map_parts.proofs.RoomMade.{AreReady, ready, fit-grown, still-side}

-- a closed chain has the sides of its ring
closed-sides : (points : List ℕ) → 1 ≤ length points → sides_of_chain (points ++ start_of points ∷ []) ≡ sides_of points
closed-sides [] some = absurd (omega (arith, some))
closed-sides (a ∷ points) some = sides_of_chain-is a points a

module _ (m : Map) (face : Face) (numbers : List ℕ) (added : List StringRow) (parcel : ℕ) (path : List Half)
    (is : IsEnclosing m face numbers added parcel path) where
  abbrev now : Map
  now = enclosed is

  abbrev inner : Face
  inner = Parcel parcel

  pub can : IsAllowed m face is.points numbers parcel is.label is.source
  can = can-enclose m face is.points numbers parcel is.label is.source is.tried.given
      (allowed m (Enclose face is.points numbers parcel is.label is.source) is.tried.allowed)

  pub whole : HasWholeRings m
  whole = whole_valid m is.tried.valid

  pub parts : HasWholeRings now
  parts = whole-after m (Enclose face is.points numbers parcel is.label is.source) is.tried.valid is.tried.given is.tried.allowed tt

  pub island : IsIslandOf m now face inner is.points (canonical_form (bounding inner is.points))
      (canonical_form (bounding face (reverse is.points))) (rings_placed is)
  island = tried-island m face is.points numbers parcel is.label is.source is.tried

  pub two : HaveTwoFaces m now face inner
  two = tried-faces m face is.points numbers parcel is.label is.source is.tried

  pub places-differ : face_place face ≢ face_place inner
  places-differ same = island.differ (place-same face inner same)

  closed_long : length numbers + 1 ≡ length (is.points ++ start_of is.points ∷ [])
  closed_long =
      let e = length-append is.points (start_of is.points ∷ []) in
      let as_many = can.as_many in
      omega (arith, e, as_many)

  pub numbered : numbers_of added ≡ numbers
  numbered = added_map.numbers-come numbers (is.points ++ start_of is.points ∷ []) is.source closed_long is.added_are

  abbrev row : ParcelRow
  row = record { number = parcel; label = is.label; sources = is.source ∷ [] }

  pub come : HaveCome m now numbers added row path
  unfolding after
  come =
      added_map.chain-come numbers (is.points ++ start_of is.points ∷ []) is.source closed_long is.added_are whole parts can.rows.strings_new can.rows.parcel_new can.rows.strings_distinct is.path_is refl

  pub none : has_face m inner ≡ false
  none = added_map.none come

  pub more : HasStringsMore m now path
  more = added_map.more come

  pub different : AreDifferent path
  different = added_map.different come

  sides-added : map side_of added ≡ sides_of is.points
  sides-added =
      added_map.sides-come numbers (is.points ++ start_of is.points ∷ []) is.source closed_long is.added_are
      ∙ closed-sides is.points (let long = can.long in omega (arith, long))

  pub along : (rows : HalfRows) → AllByRecursion (HasHalves rows) added → AreAlong rows path (sides_of is.points)
  along rows ends = added_map.along come rows ends (sides_of is.points) sides-added

  pub added-ends : (rows : HalfRows) → AllByRecursion (HasHalves rows) now.strings → AllByRecursion (HasHalves rows) m.strings × AllByRecursion (HasHalves rows) added
  added-ends = added_map.added-ends come

  -- in a table with the path round it, it has the island more
  abbrev pub inside : (table : HalfRows) (moved : List Half) → AreAlong table path (sides_of is.points) → AreOfRings now table moved inner (rings_placed is) → HasIslandMore m now face inner path moved table
  inside table moved along of = record {
    ring = is.points;
    left = canonical_form (bounding inner is.points);
    right = canonical_form (bounding face (reverse is.points));
    others = rings_placed is;
    rings = whole;
    parts = parts;
    is = island;
    two = two;
    more = more;
    along = along;
    of = of;
  }

-- ---- It is made

module _ {face : Face} {added : List StringRow} {parcel : ParcelRow} {first : Half} {rest moved : List Half} {rows : MapRows} {table : HalfRows}
    {held : Held Half} {stars : Held Spoke} (c : CanBeginEnclose face added parcel (first ∷ rest) moved rows table held stars) where
  pub made-come : HaveCome c.map (enclosed c.is) c.numbers added parcel (first ∷ rest)
  made-come = added_map.given-come (come c.map face c.numbers added parcel.number (first ∷ rest) c.is) parcel refl c.label_is c.sources_are

  module _ {more_rows : MapRows} {new : HalfRows} {wide : Held Half} {filled : Held Spoke}
      (grown : AreAdded added face parcel.number rows more_rows table new held wide stars filled) where
    pub made-ready : AreReady c.map added face parcel.number (first ∷ rest) more_rows new wide filled
    made-ready =
        ready c.map added face parcel.number (first ∷ rest) c.fits c.new (added_map.named made-come)
        (ring_ends-room added c.is.points (pairs-from_distinct c.is.points (can c.map face c.numbers added parcel.number (first ∷ rest) c.is).points_distinct) (sides-added c.map face c.numbers added parcel.number (first ∷ rest) c.is) filled grown.room.ends)
        grown

    -- old halves lead along the sides along which they led
    pub made-side : (h : Half) → IsShown c.map h → side_by new h ≡ side_by table h
    made-side h shown = still-side c.new grown.adds h (c.fits.fits.local.there h shown)

    pub made-moved : AreOfRings (enclosed c.is) new moved (Parcel parcel.number) (rings_placed c.is)
    made-moved =
        holes-placed c.map (enclosed c.is) made-come.whole face (Parcel parcel.number) c.is.points (none c.map face c.numbers added parcel.number (first ∷ rest) c.is)
        (λ h there. more-old c.map (enclosed c.is) (first ∷ rest) (added_map.more made-come) h there) table new made-side moved c.holes

    pub made-can : CanBring first rest face (Parcel parcel.number) moved new wide
    made-can = added_map.can-bring made-come made-ready moved (rings_placed c.is) made-moved (places-differ c.map face c.numbers added parcel.number (first ∷ rest) c.is)

    -- so the table goes with the map after it
    pub made-table : (done : HalfRows) (put : Held Half) → GoesWithIsland (first ∷ rest) face (Parcel parcel.number) moved new wide done put → GoesWith (enclosed c.is) done put
    made-table done put brings =
        brings c.map (enclosed c.is)
        (inside c.map face c.numbers added parcel.number (first ∷ rest) c.is new moved (along c.map face c.numbers added parcel.number (first ∷ rest) c.is new made-ready.there) made-moved)
        (none c.map face c.numbers added parcel.number (first ∷ rest) c.is) (added_map.made-ends made-come made-ready)
        (added_map.made-table made-come made-ready, added_map.made-keeps made-come made-ready)

-- ---- It is taken back

module _ {face : Face} {ns : List ℕ} {parcel : ℕ} {first : Half} {rest moved : List Half} {rows : MapRows} {table : HalfRows}
    {held : Held Half} {stars : Held Spoke} (c : CanOpen face ns parcel (first ∷ rest) moved rows table held stars) where
  pub gone-come : HaveCome c.map (enclosed c.is) ns c.added (row c.map face ns c.added parcel (first ∷ rest) c.is) (first ∷ rest)
  gone-come = come c.map face ns c.added parcel (first ∷ rest) c.is

  abbrev island_gone : HasIslandMore c.map (enclosed c.is) face (Parcel parcel) (first ∷ rest) moved table
  island_gone = inside c.map face ns c.added parcel (first ∷ rest) c.is table moved (along c.map face ns c.added parcel (first ∷ rest) c.is table (added_map.gone-ends gone-come c.fits).1) c.moved_are

  long : 2 ≤ length c.is.points
  long = let three = (can c.map face ns c.added parcel (first ∷ rest) c.is).long in omega (arith, three)

  pub gone-can : CanTakeOut first rest face (Parcel parcel) moved table held
  gone-can = record {
    path = added_map.can-take gone-come c.fits face moved (rings_placed c.is) c.moved_are (places-differ c.map face ns c.added parcel (first ∷ rest) c.is) c.inner_room c.outer_room;
    round = round-inside island_gone long c.fits.fits.local;
  }

  -- the table goes with the map before it
  pub gone-table : (wide : HalfRows) (put : Held Half) → GoesWithoutIsland (first ∷ rest) face (Parcel parcel) moved table held wide put → GoesWith c.map wide put
  gone-table wide put takes =
      takes c.map (enclosed c.is) island_gone long
      (added_map.gone-ends gone-come c.fits).0 (added_map.gone-table gone-come c.fits, added_map.gone-keeps gone-come c.fits)

-- room to exchange kept halves is room for the way back
module _ {face : Face} {ns : List ℕ} {parcel : ℕ} {path moved : List Half} {rows : MapRows} {table : HalfRows} {held : Held Half} {stars : Held Spoke}
    (c : CanBeginOpen face ns parcel path moved rows table held stars) where
  pub undo-differ : face_place face ≢ face_place (Parcel parcel)
  undo-differ = places-differ c.map face ns c.added parcel path c.is

  abbrev pub undo-can : {wide : Held Half} → IsSame held wide → HasRoomToExchange face parcel wide → CanOpen face ns parcel path moved rows table wide stars
  undo-can alike room = record {
    map = c.map;
    added = c.added;
    is = c.is;
    fits = fit-grown (enclosed c.is) c.fits refl alike;
    moved_are = c.moved_are;
    inner_room = let more = room.inner in omega (arith, more);
    outer_room = let more = room.outer in omega (arith, more);
  }
