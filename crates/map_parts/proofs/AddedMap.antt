-- A map with strings and a parcel more, however the strings lie: what it has, what its halves are, and
-- the map without them again.
use Rattle.std.proofs.Common.{◌≡◌, ◌≢◌, ℕ, ◌+◌, true, false, sym, ap, subst, ◌∙◌, List, [], ◌∷◌, ◌++◌, map, length, None, is_some, nat_eq, arith}
use Rattle.std.specs.Prelude.{IsSome}
use Rattle.std.specs.List.{AllByRecursion, Contains, IsDistinct}
use Rattle.cad_rows.specs.declared.names.Face.{Face}
use Rattle.cad_rows.specs.declared.names.Face.TheVariants.{Parcel}
use Rattle.cad_rows.specs.declared.rows.ParcelRow.{ParcelRow}
use Rattle.cad_rows.specs.declared.rows.StringRow.{StringRow}
use Rattle.cad_rings.specs.Cycle.{Side}
use Rattle.cad_rings.specs.Surgery.{sides_of_chain}
use Rattle.cad_map.specs.declared.boundary.Boundary.{Boundary}
use Rattle.cad_map.specs.Boundaries.{face_place}
use Rattle.cad_map.specs.Chain.{are_distinct, strings_along}
use Rattle.cad_map.specs.Map.{Map, string_of, parcel_of, side_of, has_face}
use Rattle.cad_map.specs.Rings.{HasWholeRings}
use Rattle.numbered_rows.specs.Rows.{without_row}
use Rattle.cad_map.specs.Valid.{EachPair}
use Rattle.cad_map.proofs.CallerLemmas.{All-append, All-follows, All-join, numbers-strings_along, sides-strings_along, pairs-from_distinct}
use Rattle.half_table.specs.declared.half.Half.{Half}
use Rattle.half_table.specs.Half.{forward_of}
use Rattle.half_table.specs.Rows.{HalfRows, has}
use Rattle.half_paths.specs.Path.{AreIn, AreDifferent, strings_of}
use Rattle.half_paths.specs.Loose.{numbers_of}
use Rattle.key_lists.specs.Held.{Held, items_at, capacity_at, HasRoomAt}
use Rattle.cad_map.specs.declared.map_rows.MapRows.{MapRows}
use Rattle.map_parts.specs.declared.stars.Spoke.{Spoke}
use Rattle.cad_map.specs.MapRows.{map_in}
use Rattle.map_parts.specs.Parts.{HasHalves}
use Rattle.map_parts.specs.Paths.{AreAlong, HasStringsMore}
use Rattle.map_parts.specs.Islands.{FitsTable, AreOfRings}
use Rattle.map_parts.specs.FaceChanges.{CanBring, CanTake}
use Rattle.map_parts.specs.Labels.{IsOnRing}
use Rattle.map_parts.specs.Handing.{KeepsEach}
use Rattle.map_parts.specs.Splitting.{FitMap, AreStarsOf}
use Rattle.map_parts.specs.StringRows.{CanPutStrings, CanTakeStrings, without_rows}
use Rattle.map_parts.proofs.AddedRows.{rows-come, rows-go, strings-absent, parcel-there}
use Rattle.map_parts.proofs.AddedStrings.{strings-more, strings-path, added-there, numbers-distinct, path-different, path-along, path-in}
use Rattle.map_parts.proofs.EachFits as fits
use Rattle.map_parts.proofs.KeptShown.{bare}
use Rattle.map_parts.proofs.PartsRings.{half-there}
use Rattle.map_parts.proofs.RoomMade.{AreReady}
use Rattle.map_parts.proofs.WholeStrings.{two-ends}

-- The second map has these strings and this parcel more, and the path leads along the strings.
pub record HaveCome (m now : Map) (numbers : List ℕ) (added : List StringRow) (row : ParcelRow) (path : List Half) : Type 0 where
  pub whole : HasWholeRings m
  pub parts : HasWholeRings now
  pub strings_new : AllByRecursion (λ n. string_of m n ≡ None) numbers
  pub parcel_new : parcel_of m row.number ≡ None
  pub distinct : EachPair (λ a b. a ≢ b) numbers
  pub numbered : numbers_of added ≡ numbers
  pub path_is : path ≡ map forward_of numbers
  pub rows_now : record now { boundaries = [] } ≡ record m { strings = m.strings ++ added; parcels = m.parcels ++ row ∷ []; boundaries = [] }

-- They are the strings along a chain, of one source.
module _ (numbers chain : List ℕ) (source : ℕ) (as_many : length numbers + 1 ≡ length chain) {added : List StringRow} (are : added ≡ strings_along (source ∷ []) numbers chain) where
  pub numbers-come : numbers_of added ≡ numbers
  numbers-come = ap numbers_of are ∙ numbers-strings_along (source ∷ []) numbers chain as_many

  pub sides-come : map side_of added ≡ sides_of_chain chain
  sides-come = ap (map side_of) are ∙ sides-strings_along (source ∷ []) numbers chain as_many

  pub chain-come : {m now : Map} {row : ParcelRow} {path : List Half} → HasWholeRings m → HasWholeRings now → AllByRecursion (λ n. string_of m n ≡ None) numbers → parcel_of m row.number ≡ None → are_distinct numbers ≡ true
      → path ≡ map forward_of numbers → record now { boundaries = [] } ≡ record m { strings = m.strings ++ strings_along (source ∷ []) numbers chain; parcels = m.parcels ++ row ∷ []; boundaries = [] }
      → HaveCome m now numbers added row path
  chain-come {m} {row = row} whole parts strings_new parcel_new distinct path_is rows_now = record {
    whole = whole;
    parts = parts;
    strings_new = strings_new;
    parcel_new = parcel_new;
    distinct = pairs-from_distinct numbers distinct;
    numbered = numbers-come;
    path_is = path_is;
    rows_now = rows_now ∙ (λ i. record m { strings = m.strings ++ sym are i; parcels = m.parcels ++ row ∷ []; boundaries = [] });
  }

module _ {m now : Map} {numbers : List ℕ} {added : List StringRow} {row : ParcelRow} {path : List Half} (come : HaveCome m now numbers added row path) where
  -- so it is with the row as it is given
  pub given-come : (given : ParcelRow) → given.number ≡ row.number → given.label ≡ row.label → given.sources ≡ row.sources → HaveCome m now numbers added given path
  given-come given number label sources =
      subst (λ (r : ParcelRow). HaveCome m now numbers added r path) (λ i. record { number = sym number i; label = sym label i; sources = sym sources i }) come

  pub strings-are : now.strings ≡ m.strings ++ added
  strings-are = ap (λ (q : Map). q.strings) come.rows_now

  pub more : HasStringsMore m now path
  more = subst (HasStringsMore m now) (sym come.path_is) (strings-more m now numbers added come.numbered come.strings_new strings-are)

  pub different : AreDifferent path
  different = subst AreDifferent (sym come.path_is) (path-different numbers come.distinct)

  pub named : strings_of path ≡ numbers_of added
  named = ap strings_of come.path_is ∙ strings-path numbers ∙ sym come.numbered

  pub none : has_face m (Parcel row.number) ≡ false
  none = ap is_some come.parcel_new

  pub numbers-differ : IsDistinct nat_eq (numbers_of added)
  numbers-differ = subst (IsDistinct nat_eq) (sym come.numbered) (numbers-distinct numbers come.distinct)

  path_added : path ≡ map forward_of (numbers_of added)
  path_added = come.path_is ∙ ap (map forward_of) (sym come.numbered)

  module _ (rows : HalfRows) (ends : AllByRecursion (HasHalves rows) added) where
    pub along : (sides : List Side) → map side_of added ≡ sides → AreAlong rows path sides
    along sides are = subst (λ (p : List Half). AreAlong rows p sides) (sym path_added) (path-along rows added ends ∙ are)

    pub within : AreIn rows path
    within = subst (AreIn rows) (sym path_added) (path-in rows added ends)

    pub all-ends : AllByRecursion (HasHalves rows) m.strings → AllByRecursion (HasHalves rows) now.strings
    all-ends old = subst (AllByRecursion (HasHalves rows)) (sym strings-are) (All-join (HasHalves rows) m.strings added old ends)

  module _ (rows : HalfRows) (ends : AllByRecursion (HasHalves rows) now.strings) where
    -- halves of rings are in the table
    pub moved-in : (inner : Face) (others : List Boundary) (moved : List Half) → AreOfRings now rows moved inner others → AreIn rows moved
    moved-in inner others moved of =
        All-follows (λ h. (b : Boundary) × Contains others b × IsOnRing now rows b h × (b.face ≡ inner)) (λ h. has rows h ≡ true)
        (λ h it. half-there (bare now rows) ends h it.2.shown) moved of.each

    -- and the ends of the strings that come
    pub added-ends : AllByRecursion (HasHalves rows) m.strings × AllByRecursion (HasHalves rows) added
    added-ends = All-append (HasHalves rows) m.strings added (subst (AllByRecursion (HasHalves rows)) strings-are ends)

  -- ---- They come

  module _ {face : Face} {rows : MapRows} {table : HalfRows} {held : Held Half} {stars : Held Spoke} (ready : AreReady m added face row.number path rows table held stars) where
    pub made-put : CanPutStrings added rows stars
    made-put = record {
      slots = ready.slots;
      absent =
          subst (λ (q : Map). AllByRecursion (λ (s : StringRow). string_of q s.number ≡ None) added) (sym ready.fits.rows_are)
          (strings-absent m now numbers added come.numbered come.distinct come.strings_new row come.parcel_new come.rows_now);
      differ = subst (EachPair (λ a b. a ≢ b)) (sym come.numbered) come.distinct;
      two =
          (All-append (λ (s : StringRow). s.from ≢ s.to) m.strings added
          (subst (AllByRecursion (λ (s : StringRow). s.from ≢ s.to)) strings-are (two-ends now come.parts))).1;
      room = ready.room;
    }

    pub made-parcel : parcel_of (map_in rows) row.number ≡ None
    made-parcel = ap (λ (q : Map). parcel_of q row.number) ready.fits.rows_are ∙ come.parcel_new

    -- what holds of table and kept halves, of rows and of stars makes them those of the map after it
    pub made-fits : {grown : MapRows} {wide : HalfRows} {put : Held Half} {filled : Held Spoke} → (FitsTable now wide × KeepsEach now wide put)
        → map_in grown ≡ record (map_in rows) { strings = (map_in rows).strings ++ added; parcels = (map_in rows).parcels ++ row ∷ [] }
        → (AreStarsOf (map_in rows).strings stars → AreStarsOf (map_in grown).strings filled)
        → FitMap now grown wide put filled
    made-fits {grown = grown} {wide = wide} {put = put} {filled = filled} after_it same star =
        let are = rows-come m now numbers added come.numbered come.distinct come.strings_new row come.parcel_new come.rows_now (map_in rows) (map_in grown) ready.fits.rows_are same in
        record {
          rows_are = are;
          fits = fits.of-each now come.parts wide put after_it.0 after_it.1;
          are_stars =
              subst (λ (q : Map). AreStarsOf q.strings filled) are
              (star (subst (λ (q : Map). AreStarsOf q.strings stars) (sym ready.fits.rows_are) ready.fits.are_stars));
        }

  -- ---- They go

  module _ {rows : MapRows} {table : HalfRows} {held : Held Half} {stars : Held Spoke} (fit : FitMap now rows table held stars) where
    pub gone-take : CanTakeStrings numbers rows stars
    gone-take = record {
      there =
          subst (λ (q : Map). AllByRecursion (λ n. IsSome (string_of q n)) numbers) (sym fit.rows_are)
          (added-there m now numbers added come.numbered come.strings_new strings-are);
      differ = come.distinct;
      numbers_differ = subst (λ (q : Map). EachPair (λ a b. a ≢ b) (map (λ (s : StringRow). s.number) q.strings)) (sym fit.rows_are) come.parts.v1.strings.distinct;
      two = subst (λ (q : Map). AllByRecursion (λ (s : StringRow). s.from ≢ s.to) q.strings) (sym fit.rows_are) (two-ends now come.parts);
      are = subst (λ (q : Map). AreStarsOf q.strings stars) (sym fit.rows_are) fit.are_stars;
    }

    pub gone-parcel : IsSome (parcel_of (map_in rows) row.number)
    gone-parcel =
        ap (λ (q : Map). is_some (parcel_of q row.number)) fit.rows_are
        ∙ parcel-there m now numbers added come.numbered come.distinct come.strings_new row come.parcel_new come.rows_now

    pub gone-fits : {left : MapRows} {wide : HalfRows} {put : Held Half} {filled : Held Spoke} → (FitsTable m wide × KeepsEach m wide put)
        → map_in left ≡ record (map_in rows) {
          strings = without_rows numbers (map_in rows).strings;
          parcels = without_row (λ (r : ParcelRow). r.number) row.number (map_in rows).parcels;
        }
        → AreStarsOf (map_in left).strings filled → FitMap m left wide put filled
    gone-fits {left = left} {wide = wide} {put = put} {filled = filled} before same star =
        let are = rows-go m now numbers added come.numbered come.distinct come.strings_new row come.parcel_new come.rows_now (map_in rows) (map_in left) fit.rows_are same in
        record {
          rows_are = are;
          fits = fits.of-each m come.whole wide put before.0 before.1;
          are_stars = subst (λ (q : Map). AreStarsOf q.strings filled) are star;
        }

-- ---- The table that they come into, and go from

module _ {m now : Map} {numbers : List ℕ} {added : List StringRow} {row : ParcelRow} {first : Half} {rest : List Half} (come : HaveCome m now numbers added row (first ∷ rest)) where
  abbrev inner : Face
  inner = Parcel row.number

  module _ {face : Face} {rows : MapRows} {table : HalfRows} {held : Held Half} {stars : Held Spoke} (ready : AreReady m added face row.number (first ∷ rest) rows table held stars) where
    pub made-table : FitsTable m table
    made-table = fits.table-of m come.whole table held ready.fits.fits

    pub made-keeps : KeepsEach m table held
    made-keeps = fits.each-of m come.whole table held stars ready.fits.are_stars ready.fits.fits

    pub made-none : items_at held (face_place inner) ≡ []
    made-none = made-keeps.none inner (none come)

    -- where so many halves more are kept of the two faces' rings there is room to hand them over, there and back
    pub made-rooms : (put : Held Half) (more spare : ℕ) → more + spare ≡ 2 → ((n : ℕ) → capacity_at put n ≡ capacity_at held n)
        → length (items_at put (face_place inner)) + length (items_at put (face_place face)) ≡ length (items_at held (face_place inner)) + length (items_at held (face_place face)) + more
        → HasRoomAt put (face_place inner) (length (items_at put (face_place face))) × HasRoomAt put (face_place face) (length (items_at put (face_place inner)) + spare)
    made-rooms put more spare two capacity count =
        let own = capacity (face_place inner) in
        let other = capacity (face_place face) in
        let inner_had = ready.inner_room in
        let outer_had = ready.outer_room in
        let none = ap length made-none in
        (omega (arith, two, count, own, inner_had), omega (arith, two, count, other, outer_had, none))

    pub made-ends : AllByRecursion (HasHalves table) now.strings
    made-ends = all-ends come table ready.there made-table.ends

    pub can-bring : (moved : List Half) (others : List Boundary) → AreOfRings now table moved inner others → face_place face ≢ face_place inner → CanBring first rest face inner moved table held
    can-bring moved others of differ = record {
      linked = ready.fits.fits.local.linked;
      within = within come table ready.there;
      different = different come;
      loose = ready.loose;
      moved_in = moved-in come table made-ends inner others moved of;
      kept_in = fits.kept-in m come.whole table held made-table made-keeps face;
      faces = differ;
      inner_room = let room = ready.inner_room in omega (arith, room);
      outer_room = let room = ready.outer_room in omega (arith, room);
    }

  module _ {rows : MapRows} {table : HalfRows} {held : Held Half} {stars : Held Spoke} (fit : FitMap now rows table held stars) where
    pub gone-table : FitsTable now table
    gone-table = fits.table-of now come.parts table held fit.fits

    pub gone-keeps : KeepsEach now table held
    gone-keeps = fits.each-of now come.parts table held stars fit.are_stars fit.fits

    pub gone-ends : AllByRecursion (HasHalves table) m.strings × AllByRecursion (HasHalves table) added
    gone-ends = added-ends come table gone-table.ends

    pub can-take : (face : Face) (moved : List Half) (others : List Boundary) → AreOfRings now table moved inner others → face_place face ≢ face_place inner
        → HasRoomAt held (face_place inner) (length (items_at held (face_place face))) → HasRoomAt held (face_place face) (length (items_at held (face_place inner)))
        → CanTake first rest face inner moved table held
    can-take face moved others of differ inner_room outer_room = record {
      linked = fit.fits.local.linked;
      within = within come table gone-ends.1;
      different = different come;
      moved_in = moved-in come table gone-table.ends inner others moved of;
      outer_in = fits.kept-in now come.parts table held gone-table gone-keeps face;
      inner_in = fits.kept-in now come.parts table held gone-table gone-keeps inner;
      faces = differ;
      inner_room = inner_room;
      outer_room = outer_room;
    }
