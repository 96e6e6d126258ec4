-- A division of a map on half-edges that is made in place, and taken back.
use Rattle.std.proofs.Common.{◌≡◌, ◌≢◌, ℕ, ◌≤◌, false, refl, arith, List, [], ◌∷◌, ◌++◌, map, length}
use Rattle.std.specs.List.{AllByRecursion}
use Rattle.cad_rows.specs.declared.edits.Edit.TheVariants.{Divide}
use Rattle.cad_rows.specs.declared.names.Face.{Face}
use Rattle.cad_rows.specs.declared.names.Face.TheVariants.{Parcel}
use Rattle.cad_rows.specs.declared.rows.ParcelRow.{ParcelRow}
use Rattle.cad_rows.specs.declared.rows.StringRow.{StringRow}
use Rattle.cad_rings.specs.Surgery.{sides_of_chain}
use Rattle.cad_map.specs.declared.boundary.Boundary.{Boundary}
use Rattle.cad_map.specs.Boundaries.{face_place, bounding, canonical_form}
use Rattle.cad_map.specs.Chain.{start_of, end_of, leaving}
use Rattle.cad_map.specs.Effects.{after}
use Rattle.cad_map.specs.Map.{Map, side_of, has_face}
use Rattle.cad_map.specs.Rings.{HasWholeRings}
use Rattle.cad_map.proofs.CallerLemmas.{CanDivide as IsAllowed, can-divide, allowed, whole_valid, ends-differ, pairs-from_distinct}
use Rattle.half_table.specs.declared.half.Half.{Half}
use Rattle.half_table.specs.Rows.{HalfRows}
use Rattle.half_paths.specs.Path.{AreDifferent}
use Rattle.half_paths.specs.Loose.{numbers_of}
use Rattle.key_lists.specs.Held.{Held, IsSame}
use Rattle.cad_laws.specs.Faces.{left_of_chain, right_of_chain}
use Rattle.cad_laws.proofs.CallerLemmas.{whole-after}
use Rattle.cad_map.specs.declared.map_rows.MapRows.{MapRows}
use Rattle.map_parts.specs.declared.stars.Spoke.{Spoke}
use Rattle.map_parts.specs.Adding.{AreAdded, HasRoomToExchange}
use Rattle.map_parts.specs.Parts.{HasHalves}
use Rattle.map_parts.specs.Paths.{AreAlong, HasStringsMore}
use Rattle.map_parts.specs.Islands.{AreOfRings}
use Rattle.map_parts.specs.Chains.{IsChainOf}
use Rattle.map_parts.specs.Labels.{IsAlong}
use Rattle.map_parts.specs.FaceChanges.{CanBringAcross, CanTakeAcross, GoesWith, GoesWithChain, GoesWithoutChain, HasChainMore}
use Rattle.map_parts.specs.Handing.{HaveTwoFaces}
use Rattle.map_parts.specs.Dividing.{IsDividing, divided, rings_beside, CanBeginDivide, CanBeginUndivide, CanUndivide}
use Rattle.map_parts.proofs.AddedMap as added_map
use Rattle.map_parts.proofs.AddedMap.{HaveCome}
use Rattle.map_parts.proofs.ChainAcross.{place-across, tied-across}
use Rattle.map_parts.proofs.ChainRoom.{chain_ends-room}
use Rattle.map_parts.proofs.DividedChain.{tried-chain, tried-faces}
use Rattle.map_parts.proofs.KeptEach.{place-same}
use Rattle.map_parts.proofs.RoomMade.{AreReady, ready, fit-grown, along-still, of-still}

module _ (m : Map) (face : Face) (numbers : List ℕ) (added : List StringRow) (parcel : ℕ) (path : List Half)
    (is : IsDividing m face numbers added parcel path) where
  abbrev now : Map
  now = divided is

  abbrev inner : Face
  inner = Parcel parcel

  pub can : IsAllowed m face is.chain numbers parcel is.label is.source
  can = can-divide m face is.chain numbers parcel is.label is.source is.tried.given (allowed m (Divide face is.chain numbers parcel is.label is.source) is.tried.allowed)

  pub whole : HasWholeRings m
  whole = whole_valid m is.tried.valid

  pub parts : HasWholeRings now
  parts = whole-after m (Divide face is.chain numbers parcel is.label is.source) is.tried.valid is.tried.given is.tried.allowed tt

  abbrev pub left_ring : Boundary
  left_ring = canonical_form (bounding inner (left_of_chain is.chain is.first is.last is.divided.cut.ring))

  abbrev pub right_ring : Boundary
  right_ring = canonical_form (bounding face (right_of_chain is.chain is.first is.last is.divided.cut.ring))

  pub chain-of : IsChainOf m now face inner is.chain is.first is.last is.divided.cut left_ring right_ring (rings_beside is)
  chain-of = tried-chain m face is.chain numbers parcel is.label is.source is.tried is.first is.last is.chosen is.divided

  pub two : HaveTwoFaces m now face inner
  two = tried-faces m face is.chain numbers parcel is.label is.source is.tried

  pub places-differ : face_place face ≢ face_place inner
  places-differ same = chain-of.differ (place-same face inner same)

  pub chain-long : 2 ≤ length is.chain
  chain-long = can.long

  pub chain-apart : start_of is.chain ≢ end_of is.chain
  chain-apart = ends-differ m is.tried.valid face is.chain numbers parcel is.label is.source can

  pub numbered : numbers_of added ≡ numbers
  numbered = added_map.numbers-come numbers is.chain is.source can.as_many is.added_are

  abbrev row : ParcelRow
  row = record { number = parcel; label = is.label; sources = is.source ∷ [] }

  pub come : HaveCome m now numbers added row path
  unfolding after
  come = added_map.chain-come numbers is.chain is.source can.as_many is.added_are whole parts can.rows.strings_new can.rows.parcel_new can.rows.strings_distinct is.path_is refl

  pub strings-are : now.strings ≡ m.strings ++ added
  strings-are = added_map.strings-are come

  pub none : has_face m inner ≡ false
  none = added_map.none come

  pub more : HasStringsMore m now path
  more = added_map.more come

  pub different : AreDifferent path
  different = added_map.different come

  pub sides-added : map side_of added ≡ sides_of_chain is.chain
  sides-added = added_map.sides-come numbers is.chain is.source can.as_many is.added_are

  pub along : (rows : HalfRows) → AllByRecursion (HasHalves rows) added → AreAlong rows path (sides_of_chain is.chain)
  along rows ends = added_map.along come rows ends (sides_of_chain is.chain) sides-added

  pub added-ends : (rows : HalfRows) → AllByRecursion (HasHalves rows) now.strings → AllByRecursion (HasHalves rows) m.strings × AllByRecursion (HasHalves rows) added
  added-ends = added_map.added-ends come

  -- in a table with the path along the chain, it has the chain more
  abbrev pub across : (table : HalfRows) (moved : List Half) → AreAlong table path (sides_of_chain is.chain) → AreOfRings now table moved inner (rings_beside is) → HasChainMore m now face inner path moved table
  across table moved along of = record {
    chain = is.chain;
    first_corner = is.first;
    last_corner = is.last;
    one = is.divided.cut;
    left = left_ring;
    right = right_ring;
    others = rings_beside is;
    rings = whole;
    parts = parts;
    long = chain-long;
    is = chain-of;
    two = two;
    more = more;
    along = along;
    of = of;
  }

-- ---- It is made

module _ {face : Face} {added : List StringRow} {parcel : ParcelRow} {first : Half} {rest : List Half} {start end : Half} {moved : List Half} {rows : MapRows} {table : HalfRows}
    {held : Held Half} {stars : Held Spoke} (c : CanBeginDivide face added parcel (first ∷ rest) start end moved rows table held stars) where
  long : 2 ≤ length c.is.chain
  long = chain-long c.map face c.numbers added parcel.number (first ∷ rest) c.is

  pub made-come : HaveCome c.map (divided c.is) c.numbers added parcel (first ∷ rest)
  made-come = added_map.given-come (come c.map face c.numbers added parcel.number (first ∷ rest) c.is) parcel refl c.label_is c.sources_are

  module _ {more_rows : MapRows} {new : HalfRows} {wide : Held Half} {filled : Held Spoke}
      (grown : AreAdded added face parcel.number rows more_rows table new held wide stars filled) where
    pub made-ready : AreReady c.map added face parcel.number (first ∷ rest) more_rows new wide filled
    made-ready =
        ready c.map added face parcel.number (first ∷ rest) c.fits c.new (added_map.named made-come)
        (chain_ends-room added c.is.chain long (pairs-from_distinct c.is.chain (can c.map face c.numbers added parcel.number (first ∷ rest) c.is).points_distinct) (sides-added c.map face c.numbers added parcel.number (first ∷ rest) c.is) filled grown.room.ends)
        grown

    pub made-moved : AreOfRings (divided c.is) new moved (Parcel parcel.number) (rings_beside c.is)
    made-moved = of-still c.new grown.adds (divided c.is) moved (Parcel parcel.number) (rings_beside c.is) c.moved_in c.moved_are

    start_on : IsAlong c.map new (leaving c.is.first) start
    start_on = along-still c.new grown.adds c.map (leaving c.is.first) start c.start_on

    end_on : IsAlong c.map new (leaving c.is.last) end
    end_on = along-still c.new grown.adds c.map (leaving c.is.last) end c.end_on

    abbrev with_chain : HasChainMore c.map (divided c.is) face (Parcel parcel.number) (first ∷ rest) moved new
    with_chain = across c.map face c.numbers added parcel.number (first ∷ rest) c.is new moved (along c.map face c.numbers added parcel.number (first ∷ rest) c.is new made-ready.there) made-moved

    pub made-can : CanBringAcross first rest start end face (Parcel parcel.number) moved new wide
    made-can = record {
      path = added_map.can-bring made-come made-ready moved (rings_beside c.is) made-moved (places-differ c.map face c.numbers added parcel.number (first ∷ rest) c.is);
      place = place-across with_chain (chain-apart c.map face c.numbers added parcel.number (first ∷ rest) c.is) start_on end_on;
    }

    -- so the table goes with the map after it
    pub made-table : (done : HalfRows) (put : Held Half) → GoesWithChain (first ∷ rest) start end face (Parcel parcel.number) moved new wide done put → GoesWith (divided c.is) done put
    made-table done put brings =
        brings c.map (divided c.is) with_chain (none c.map face c.numbers added parcel.number (first ∷ rest) c.is)
        (added_map.made-ends made-come made-ready) start_on end_on (added_map.made-table made-come made-ready, added_map.made-keeps made-come made-ready)

-- ---- It is taken back

module _ {face : Face} {ns : List ℕ} {parcel : ℕ} {first : Half} {rest moved : List Half} {rows : MapRows} {table : HalfRows}
    {held : Held Half} {stars : Held Spoke} (c : CanUndivide face ns parcel (first ∷ rest) moved rows table held stars) where
  pub gone-come : HaveCome c.map (divided c.is) ns c.added (row c.map face ns c.added parcel (first ∷ rest) c.is) (first ∷ rest)
  gone-come = come c.map face ns c.added parcel (first ∷ rest) c.is

  chain_gone : HasChainMore c.map (divided c.is) face (Parcel parcel) (first ∷ rest) moved table
  chain_gone =
      across c.map face ns c.added parcel (first ∷ rest) c.is table moved (along c.map face ns c.added parcel (first ∷ rest) c.is table (added_map.gone-ends gone-come c.fits).1) c.moved_are

  pub gone-can : CanTakeAcross first rest face (Parcel parcel) moved table held
  gone-can = record {
    path =
        added_map.can-take gone-come c.fits face moved (rings_beside c.is) c.moved_are (places-differ c.map face ns c.added parcel (first ∷ rest) c.is) c.inner_room
        (let more = c.outer_room in omega (arith, more));
    tied = tied-across chain_gone c.fits.fits.local;
    one_more = c.outer_room;
  }

  -- the table goes with the map before it
  pub gone-table : (wide : HalfRows) (put : Held Half) → GoesWithoutChain (first ∷ rest) face (Parcel parcel) moved table held wide put → GoesWith c.map wide put
  gone-table wide put takes =
      takes c.map (divided c.is) chain_gone
      (added_map.gone-ends gone-come c.fits).0 (added_map.gone-table gone-come c.fits, added_map.gone-keeps gone-come c.fits)

-- room to exchange kept halves is room for the way back
module _ {face : Face} {ns : List ℕ} {parcel : ℕ} {path moved : List Half} {rows : MapRows} {table : HalfRows} {held : Held Half} {stars : Held Spoke}
    (c : CanBeginUndivide face ns parcel path moved rows table held stars) where
  pub undo-differ : face_place face ≢ face_place (Parcel parcel)
  undo-differ = places-differ c.map face ns c.added parcel path c.is

  abbrev pub undo-can : {wide : Held Half} → IsSame held wide → HasRoomToExchange face parcel wide → CanUndivide face ns parcel path moved rows table wide stars
  undo-can alike room = record {
    map = c.map;
    added = c.added;
    is = c.is;
    fits = fit-grown (divided c.is) c.fits refl alike;
    moved_are = c.moved_are;
    inner_room = let more = room.inner in omega (arith, more);
    outer_room = room.outer;
  }
