-- The rows of a map after a merger, and those before it: the strings that the two parcels share and the ended one go, and come back.
use Rattle.std.proofs.Common.{◌≡◌, ◌≢◌, inl, inr, ℕ, ◌==◌, Bool, true, false, not, true≢false, refl, sym, ap, subst, ◌∙◌, List, [], ◌∷◌, ◌++◌, ◌+◌, map, length, filter, slice_get, Some, arith}
use Rattle.std.specs.Prelude.{IsSome, IsFalse, IsPermutation}
use Rattle.std.specs.List.{AllByRecursion, Contains}
use Rattle.std.proofs.lemmas.Bool.{eqb-true}
use Rattle.cad_rows.specs.declared.edits.Edit.TheVariants.{Merge}
use Rattle.cad_rows.specs.declared.names.Face.{Face}
use Rattle.cad_rows.specs.declared.names.Face.TheVariants.{Parcel}
use Rattle.cad_rows.specs.declared.rows.ParcelRow.{ParcelRow}
use Rattle.cad_rows.specs.declared.rows.StringRow.{StringRow}
use Rattle.cad_map.specs.declared.boundary.Boundary.{Boundary}
use Rattle.cad_map.specs.Boundaries.{face_place}
use Rattle.cad_map.specs.Effects.{after}
use Rattle.cad_map.specs.Map.{Map, string_of, parcel_of, has_face, has_parcel, is_retired}
use Rattle.cad_map.specs.Merger.{is_shared}
use Rattle.cad_map.specs.Rings.{HasWholeRings}
use Rattle.numbered_rows.specs.Rows.{row_with, without_row}
use Rattle.cad_map.specs.Valid.{EachPair}
use Rattle.cad_map.proofs.CallerLemmas.{whole_valid, allowed, can-merge, All-follows, All-from_each, All-at_each, list_any-none, Contains-cases, Contains-filter, filter-Contains, Contains-map, map-Contains, Contains-at}
use Rattle.half_table.specs.declared.half.Half.{Half}
use Rattle.half_table.specs.Rows.{HalfRows, has, next}
use Rattle.half_paths.specs.Path.{AreIn, AreDifferent, strings_of}
use Rattle.half_paths.specs.Loose.{AreLoose, numbers_of}
use Rattle.key_lists.specs.Held.{Held, items_at, HasRoomAt}
use Rattle.cad_laws.specs.Counts.{shared_strings}
use Rattle.cad_laws.specs.Tried.{IsTried}
use Rattle.cad_laws.proofs.CallerLemmas.{whole-after, of-parcels}
use Rattle.map_parts.specs.declared.edits.placed_strings.PlacedString.{PlacedString}
use Rattle.cad_map.specs.declared.map_rows.MapRows.{MapRows}
use Rattle.map_parts.specs.declared.stars.Spoke.{Spoke}
use Rattle.map_parts.specs.Adding.{HasRoomToExchange}
use Rattle.cad_map.specs.MapRows.{map_in}
use Rattle.map_parts.specs.Parts.{HasHalves}
use Rattle.map_parts.specs.Paths.{HasStringsMore}
use Rattle.map_parts.specs.Islands.{FitsTable, AreOfRings}
use Rattle.map_parts.specs.FaceChanges.{CanBring, CanTake}
use Rattle.map_parts.specs.Labels.{IsOnRing}
use Rattle.map_parts.specs.Handing.{KeepsEach, KeepsEnds, KeepsNoMore, HaveTwoFaces}
use Rattle.map_parts.specs.Splitting.{FitMap, AreStarsOf}
use Rattle.map_parts.specs.StringRows.{without_rows}
use Rattle.map_parts.specs.PlacedStrings.{numbers_placed, StoodIn}
use Rattle.map_parts.specs.Merging.{CanComeBack, CanEnd, HaveGone, StoodThere, HaveRoomBack, without_ended}
use Rattle.map_parts.proofs.AddedStrings.{numbers-distinct}
use Rattle.map_parts.proofs.EachFits as fits
use Rattle.map_parts.proofs.IslandFits.{ends-same}
use Rattle.map_parts.proofs.MergedChain.{merged-face, faces-apart}
use Rattle.map_parts.proofs.KeptEach.{place-same}
use Rattle.map_parts.proofs.KeptShown.{bare}
use Rattle.map_parts.proofs.PartsRings.{half-there}
use Rattle.map_parts.proofs.SharedRows.{strings-gone, passed-out, named-there, named-differ, named-passes, one-row, any-there}
use Rattle.map_parts.proofs.WholeStrings.{two-ends}

-- each of the rows that went was there
pub stood-there : (rows : List StringRow) (gone : List PlacedString) → StoodIn rows gone → (g : PlacedString) → Contains gone g → Contains rows g.row
stood-there rows [] stood g among = let low = among.1 in absurd (omega arith)
stood-there rows (k ∷ gone) stood g among = elim (Contains-cases k gone g among) [
  | inl same ↦ subst (λ (q : PlacedString). Contains rows q.row) same (Contains-at rows k.place k.row stood.0)
  | inr later ↦ (filter-Contains (λ (r : StringRow). not (r.number == k.row.number)) rows g.row (stood-there (without_row (λ (r : StringRow). r.number) k.row.number rows) gone stood.1 g later)).0
]

-- The halves that are kept for the rings of a parcel and of a face can be parted again.
pub record HasRoomBack (keeper : Face) (ended : ℕ) (put : Held Half) : Type 0 where
  pub inner : HasRoomAt put (face_place (Parcel ended)) (length (items_at put (face_place keeper)) + 1)
  pub outer : HasRoomAt put (face_place keeper) 1

-- there is room for that where they could be exchanged and no more are kept
pub room-left : {keeper : Face} {ended : ℕ} {held put : Held Half} → HasRoomToExchange keeper ended held → KeepsNoMore (face_place (Parcel ended)) (face_place keeper) held put
    → HasRoomBack keeper ended put
room-left {keeper} {ended} room kept =
    let few = kept.few in
    let inner_cap = kept.capacity (face_place (Parcel ended)) in
    let outer_cap = kept.capacity (face_place keeper) in
    let inner_had = room.inner in
    let outer_had = room.outer in
    record { inner = omega (arith, few, inner_cap, inner_had); outer = omega (arith, few, outer_cap, outer_had) }

-- what went from the rows of a map went from it, with its rings
pub had : {m n : Map} {ended : ℕ} {strings : List ℕ} {row : ParcelRow} {place : ℕ} {gone : List PlacedString} → n ≡ record m { boundaries = [] } → HaveGone n ended strings row place gone → HaveGone m ended strings row place gone
had {ended = ended} {row = row} {place = place} {gone = gone} same went = record {
  row = subst (λ (q : Map). slice_get q.parcels place ≡ Some row) same went.row;
  found = subst (λ (q : Map). parcel_of q ended ≡ Some row) same went.found;
  numbers = went.numbers;
  stood = subst (λ (q : Map). StoodIn q.strings gone) same went.stood;
}

-- What a merger left of the parts, where what it took can come back: its rows, its strings, loose, and
-- room for all of it.
pub record HasGone (after_it : Map) (keeper : Face) (ended : ℕ) (strings : List ℕ) (path : List Half) (row : ParcelRow) (place : ℕ) (gone : List PlacedString)
    (rows new : MapRows) (table wide : HalfRows) (put : Held Half) (filled : Held Spoke) : Type 0 where
  pub fits : FitMap after_it new wide put filled
  pub halves : KeepsEnds table wide
  pub loose : AreLoose (next wide) path
  pub went : HaveGone (map_in rows) ended strings row place gone
  pub room : HaveRoomBack row gone new filled
  pub kept_room : HasRoomBack keeper ended put

module _ {after_it : Map} {keeper : Face} {ended : ℕ} {strings : List ℕ} {path : List Half} {row : ParcelRow} {place : ℕ} {gone : List PlacedString}
    {rows new : MapRows} {table wide : HalfRows} {put : Held Half} {filled : Held Spoke} (it : HasGone after_it keeper ended strings path row place gone rows new table wide put filled)
    {m : Map} {held : Held Half} {stars : Held Spoke} (fit : FitMap m rows table held stars) where
  pub gone-stood : strings ≡ strings_of path → StoodThere m (strings_of path) row place gone
  gone-stood are = let before = had {m = m} fit.rows_are it.went in record { row = before.row; numbers = before.numbers ∙ are; stood = before.stood }

  pub gone-there : AllByRecursion (λ (g : PlacedString). HasHalves wide g.row) gone
  gone-there =
      let ends = ends-same table wide it.halves.origin it.halves.has m.strings fit.fits.ends in
      All-from_each (λ (g : PlacedString). HasHalves wide g.row) gone
      (λ g among. All-at_each (HasHalves wide) m.strings g.row ends (stood-there m.strings gone (had {m = m} fit.rows_are it.went).stood g among))

-- The merger is tried, and the path has the strings that the two share.
module _ (m : Map) (keeper : Face) (ended : ℕ) (path : List Half) (tried : IsTried m (Merge keeper (Parcel ended)))
    (shared : IsPermutation (numbers_of (shared_strings m keeper (Parcel ended))) (strings_of path)) where
  abbrev now : Map
  now = after m (Merge keeper (Parcel ended))

  abbrev inner : Face
  inner = Parcel ended

  abbrev shares : StringRow → Bool
  shares = is_shared m keeper inner

  pub whole : HasWholeRings m
  whole = whole_valid m tried.valid

  pub parts : HasWholeRings now
  parts = whole-after m (Merge keeper inner) tried.valid tried.given tried.allowed tt

  both_faces : HaveTwoFaces now m keeper inner × (has_face now inner ≡ false)
  both_faces = merged-face m keeper inner tried

  pub two : HaveTwoFaces now m keeper inner
  two = both_faces.0

  pub none : has_face now inner ≡ false
  none = both_faces.1

  pub places-differ : face_place keeper ≢ face_place inner
  places-differ same = faces-apart m keeper inner tried (place-same keeper inner same)

  -- ---- The ended parcel

  pub parcel-there : has_parcel m ended ≡ true
  parcel-there =
      of-parcels m (λ k e. has_face m e ≡ true) (λ k e free. (can-merge m k e free).ended_there) keeper inner (allowed m (Merge keeper inner) tried.allowed)

  pub not-retired : is_retired m ended ≡ false
  not-retired = list_any-none (λ n. n == ended) m.retired (λ n among. by n (n == ended) refl among)
    where
      by : (n : ℕ) (b : Bool) → (n == ended) ≡ b → Contains m.retired n → (n == ended) ≡ false
      by n false e among = e
      by n true e among =
          let gone : has_parcel m n ≡ false = is_no (All-at_each (λ n. IsFalse (has_parcel m n)) m.retired n tried.valid.sound.v1.retired_for_good among) in
          absurd (true≢false (sym parcel-there ∙ ap (has_parcel m) (sym (eqb-true n ended e)) ∙ gone))
        where
          is_no : {b : Bool} → IsFalse b → b ≡ false
          is_no h = h

  -- ---- The strings that the two share

  pub numbers-each : EachPair (λ a b. a ≢ b) (map (λ (s : StringRow). s.number) m.strings)
  numbers-each = tried.valid.sound.v1.strings.distinct

  pub named : AllByRecursion (λ n. IsSome (string_of m n)) (strings_of path)
  named = named-there m.strings numbers-each shares (strings_of path) shared

  pub distinct : EachPair (λ a b. a ≢ b) (strings_of path)
  distinct = named-differ m.strings numbers-each shares (strings_of path) shared

  pub different : AreDifferent path
  different = numbers-distinct (strings_of path) distinct

  pub rows-now : record now { boundaries = [] } ≡ record m {
    strings = without_rows (strings_of path) m.strings;
    parcels = without_row (λ (p : ParcelRow). p.number) ended m.parcels;
    retired = m.retired ++ ended ∷ [];
    boundaries = [];
  }
  unfolding after
  rows-now = λ i. record m {
    strings = sym (passed-out m.strings numbers-each shares (strings_of path) shared) i;
    parcels = without_row (λ (p : ParcelRow). p.number) ended m.parcels;
    retired = m.retired ++ ended ∷ [];
    boundaries = [];
  }

  pub strings-are : now.strings ≡ without_rows (strings_of path) m.strings
  strings-are = ap (λ (q : Map). q.strings) rows-now

  pub more : HasStringsMore now m path
  more = strings-gone m now path named strings-are

  -- a half of each is in the table where the map's are
  pub within : (rows : HalfRows) → AllByRecursion (HasHalves rows) m.strings → AreIn rows path
  within rows ends =
      All-from_each (λ h. has rows h ≡ true) path (λ h among.
      half-there (bare m rows) ends h (All-at_each (λ n. IsSome (string_of m n)) (strings_of path) h.string named (Contains-map (λ (g : Half). g.string) path h among)))

  pub moved-in : (others : List Boundary) (rows : HalfRows) → AllByRecursion (HasHalves rows) m.strings → (moved : List Half) → AreOfRings m rows moved inner others → AreIn rows moved
  moved-in others rows ends moved of =
      All-follows (λ h. (b : Boundary) × Contains others b × IsOnRing m rows b h × (b.face ≡ inner)) (λ h. has rows h ≡ true)
      (λ h it. half-there (bare m rows) ends h it.2.shown) moved of.each

  pub ends-left : (rows : HalfRows) → AllByRecursion (HasHalves rows) m.strings → AllByRecursion (HasHalves rows) now.strings
  unfolding after
  ends-left rows ends =
      All-from_each (HasHalves rows) (filter (λ s. not (shares s)) m.strings) (λ s among.
      All-at_each (HasHalves rows) m.strings s ends (filter-Contains (λ s. not (shares s)) m.strings s among).0)

  -- ---- It is made

  module _ {rows : MapRows} {table : HalfRows} {held : Held Half} {stars : Held Spoke} (fit : FitMap m rows table held stars) where
    -- the parcel and the strings can go from the rows
    pub made-end : {strings : List ℕ} → strings ≡ strings_of path → CanEnd ended strings rows stars
    made-end are =
        let back : m.strings ≡ (map_in rows).strings = sym (ap (λ (q : Map). q.strings) fit.rows_are) in
        record {
          there = ap (λ (q : Map). has_parcel q ended) fit.rows_are ∙ parcel-there;
          fresh = ap (λ (q : Map). is_retired q ended) fit.rows_are ∙ not-retired;
          take = record {
            there =
                subst (λ (t : List ℕ × List StringRow). AllByRecursion (λ n. IsSome (row_with (λ (s : StringRow). s.number) n t.1)) t.0) (λ i. (sym are i, back i)) named;
            differ = subst (EachPair (λ a b. a ≢ b)) (sym are) distinct;
            numbers_differ = subst (λ (l : List StringRow). EachPair (λ a b. a ≢ b) (map (λ (s : StringRow). s.number) l)) back whole.v1.strings.distinct;
            two = subst (AllByRecursion (λ (s : StringRow). s.from ≢ s.to)) back (two-ends m whole);
            are = subst (λ (l : List StringRow). AreStarsOf l stars) back fit.are_stars;
          };
        }

    pub made-fits : {strings : List ℕ} → strings ≡ strings_of path → (left : MapRows) (wide : HalfRows) (put : Held Half) (filled : Held Spoke)
        → (FitsTable now wide × KeepsEach now wide put)
        → map_in left ≡ without_ended ended strings (map_in rows)
        → AreStarsOf (map_in left).strings filled → FitMap now left wide put filled
    made-fits strings_are left wide put filled after_it same star =
        let are =
        same
        ∙ (λ i. record (fit.rows_are i) {
          strings = without_rows (strings_are i) (fit.rows_are i).strings;
          parcels = without_row (λ (r : ParcelRow). r.number) ended (fit.rows_are i).parcels;
          retired = (fit.rows_are i).retired ++ ended ∷ [];
        })
        ∙ sym rows-now in
        record {
          rows_are = are;
          fits = fits.of-each now parts wide put after_it.0 after_it.1;
          are_stars = subst (λ (q : Map). AreStarsOf q.strings filled) are star;
        }

-- ---- It is taken back

module _ (old : Map) (keeper : Face) (ended : ℕ) (gone_path : List Half) (tried : IsTried old (Merge keeper (Parcel ended)))
    (shared : IsPermutation (numbers_of (shared_strings old keeper (Parcel ended))) (strings_of gone_path))
    (gone : List PlacedString) (numbers_are : numbers_placed gone ≡ strings_of gone_path) (stood : StoodIn old.strings gone) where
  abbrev last : Map
  last = after old (Merge keeper (Parcel ended))

  abbrev told : StringRow → Bool
  told = is_shared old keeper (Parcel ended)

  old_whole : HasWholeRings old
  old_whole = whole old keeper ended gone_path tried shared

  old_each : EachPair (λ a b. a ≢ b) (map (λ (s : StringRow). s.number) old.strings)
  old_each = old_whole.v1.strings.distinct

  -- the ends of all strings: of those that the two share too
  pub back-ends : (table : HalfRows) → AllByRecursion (HasHalves table) last.strings → AllByRecursion (λ (g : PlacedString). HasHalves table g.row) gone → AllByRecursion (HasHalves table) old.strings
  unfolding after
  back-ends table ends there_again = All-from_each (HasHalves table) old.strings (λ s there. by s there (told s) refl)
    where
      by : (s : StringRow) → Contains old.strings s → (b : Bool) → told s ≡ b → HasHalves table s
      by s there false is =
          All-at_each (HasHalves table) (filter (λ r. not (told r)) old.strings) s ends (Contains-filter (λ r. not (told r)) old.strings s there (ap not is))
      by s there true is =
          let named = any-there s.number (strings_of gone_path) (named-passes old.strings old_each told (strings_of gone_path) shared s there ∙ is) in
          let it = map-Contains (λ (g : PlacedString). g.row.number) gone s.number (subst (λ (l : List ℕ). Contains l s.number) (sym numbers_are) named) in
          let same = one-row old.strings old_each it.0.row s (stood-there old.strings gone stood it.0 it.1) there it.2 in
          subst (HasHalves table) same (All-at_each (λ (g : PlacedString). HasHalves table g.row) gone it.0 there_again it.1)

module _ (old : Map) (keeper : Face) {row : ParcelRow} {place : ℕ} (gone_path : List Half) (tried : IsTried old (Merge keeper (Parcel row.number)))
    (shared : IsPermutation (numbers_of (shared_strings old keeper (Parcel row.number))) (strings_of gone_path))
    {gone : List PlacedString} (went : StoodThere old (strings_of gone_path) row place gone)
    {rows : MapRows} {table : HalfRows} {held : Held Half} {stars : Held Spoke} (fit : FitMap (after old (Merge keeper (Parcel row.number))) rows table held stars)
    (room : HaveRoomBack row gone rows stars) where
  abbrev whole_rings : HasWholeRings old
  whole_rings = whole old keeper row.number gone_path tried shared

  -- the parcel and the strings can come back
  abbrev pub back-come : CanComeBack row place gone rows stars
  back-come = record {
    before = old;
    strings_differ = whole_rings.v1.strings.distinct;
    parcels_differ = whole_rings.v1.parcels.distinct;
    two = two-ends old whole_rings;
    fresh = not-retired old keeper row.number gone_path tried shared;
    stood = went.stood;
    at = went.row;
    left = fit.rows_are ∙ rows-now old keeper row.number gone_path tried shared ∙ ap (λ (l : List ℕ). without_ended row.number l old) (sym went.numbers);
    stars_are = subst (λ (q : Map). AreStarsOf q.strings stars) (sym fit.rows_are) fit.are_stars;
    room = room;
  }

  pub back-fits : (new : MapRows) (wide : HalfRows) (put : Held Half) (filled : Held Spoke) → FitsTable old wide × KeepsEach old wide put
      → map_in new ≡ record old { boundaries = [] } → AreStarsOf old.strings filled → FitMap old new wide put filled
  back-fits new wide put filled before same star = record {
    rows_are = same;
    fits = fits.of-each old whole_rings wide put before.0 before.1;
    are_stars = star;
  }

-- ---- The table that they go from, and come back into

module _ (m : Map) (keeper : Face) (ended : ℕ) (first : Half) (rest : List Half) (tried : IsTried m (Merge keeper (Parcel ended)))
    (shared : IsPermutation (numbers_of (shared_strings m keeper (Parcel ended))) (strings_of (first ∷ rest)))
    {rows : MapRows} {table : HalfRows} {held : Held Half} {stars : Held Spoke} (fit : FitMap m rows table held stars) where
  pub made-table : FitsTable m table
  made-table = fits.table-of m (whole m keeper ended (first ∷ rest) tried shared) table held fit.fits

  pub made-keeps : KeepsEach m table held
  made-keeps = fits.each-of m (whole m keeper ended (first ∷ rest) tried shared) table held stars fit.are_stars fit.fits

  pub can-take : (moved : List Half) (others : List Boundary) → AreOfRings m table moved (Parcel ended) others → HasRoomToExchange keeper ended held
      → CanTake first rest keeper (Parcel ended) moved table held
  can-take moved others of room =
      let path = first ∷ rest in
      record {
        linked = fit.fits.local.linked;
        within = within m keeper ended path tried shared table made-table.ends;
        different = different m keeper ended path tried shared;
        moved_in = moved-in m keeper ended path tried shared others table made-table.ends moved of;
        outer_in = fits.kept-in m (whole m keeper ended path tried shared) table held made-table made-keeps keeper;
        inner_in = fits.kept-in m (whole m keeper ended path tried shared) table held made-table made-keeps (Parcel ended);
        faces = places-differ m keeper ended path tried shared;
        inner_room = let more = room.inner in omega (arith, more);
        outer_room = let more = room.outer in omega (arith, more);
      }

module _ (old : Map) (keeper : Face) {row : ParcelRow} {place : ℕ} (first : Half) (rest : List Half) (tried : IsTried old (Merge keeper (Parcel row.number)))
    (shared : IsPermutation (numbers_of (shared_strings old keeper (Parcel row.number))) (strings_of (first ∷ rest))) {gone : List PlacedString}
    (went : StoodThere old (strings_of (first ∷ rest)) row place gone) {rows : MapRows} {table : HalfRows} {held : Held Half} {stars : Held Spoke}
    (fit : FitMap (after old (Merge keeper (Parcel row.number))) rows table held stars) (there : AllByRecursion (λ (g : PlacedString). HasHalves table g.row) gone) where
  abbrev last_map : Map
  last_map = after old (Merge keeper (Parcel row.number))

  last_parts : HasWholeRings last_map
  last_parts = parts old keeper row.number (first ∷ rest) tried shared

  pub last-table : FitsTable last_map table
  last-table = fits.table-of last_map last_parts table held fit.fits

  pub last-keeps : KeepsEach last_map table held
  last-keeps = fits.each-of last_map last_parts table held stars fit.are_stars fit.fits

  pub all-back : AllByRecursion (HasHalves table) old.strings
  all-back = back-ends old keeper row.number (first ∷ rest) tried shared gone went.numbers went.stood table last-table.ends there

  pub can-bring : (moved : List Half) (others : List Boundary) → AreOfRings old table moved (Parcel row.number) others → AreLoose (next table) (first ∷ rest)
      → HasRoomAt held (face_place (Parcel row.number)) (length (items_at held (face_place keeper)) + 1) → HasRoomAt held (face_place keeper) 1
      → CanBring first rest keeper (Parcel row.number) moved table held
  can-bring moved others of loose inner_room outer_room =
      let path = first ∷ rest in
      record {
        linked = fit.fits.local.linked;
        within = within old keeper row.number path tried shared table all-back;
        different = different old keeper row.number path tried shared;
        loose = loose;
        moved_in = moved-in old keeper row.number path tried shared others table all-back moved of;
        kept_in = fits.kept-in last_map last_parts table held last-table last-keeps keeper;
        faces = places-differ old keeper row.number path tried shared;
        inner_room = inner_room;
        outer_room = outer_room;
      }
