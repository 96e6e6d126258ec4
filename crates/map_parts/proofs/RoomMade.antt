-- Room that is made, and strings that are added loose, before the first change of an edit.
use Rattle.std.proofs.Common.{◌≡◌, ℕ, ◌+◌, Bool, true, if◌then◌else◌, refl, sym, ap, subst, ◌∙◌, List, [], ◌∷◌, ◌++◌, map, length}
use Rattle.std.specs.Prelude.{IsPermutation, flat_map, Result, Ok, Err, OnOk, OnErr}
use Rattle.std.specs.List.{AllByRecursion, Contains}
use Rattle.cad_rows.specs.declared.names.Face.{Face}
use Rattle.cad_rows.specs.declared.names.Face.TheVariants.{Parcel}
use Rattle.cad_rows.specs.declared.rows.StringRow.{StringRow}
use Rattle.cad_rings.specs.Cycle.{Side, sides_of}
use Rattle.cad_map.specs.declared.boundary.Boundary.{Boundary}
use Rattle.cad_map.specs.Boundaries.{face_place}
use Rattle.cad_map.specs.Map.{Map, faces}
use Rattle.cad_map.proofs.CallerLemmas.{All-at_each, All-from_each}
use Rattle.half_table.specs.declared.half.Half.{Half}
use Rattle.half_table.specs.Half.{twin}
use Rattle.half_table.specs.Rows.{HalfRows, IsLinked, has, next, origin_of}
use Rattle.half_paths.specs.Path.{AreIn, strings_of}
use Rattle.half_paths.specs.Loose.{AddsStrings, AreLoose, AreNew, is_of, numbers_of}
use Rattle.entry_list.specs.Slots.{HasSlot}
use Rattle.key_lists.specs.Held.{Held, IsSame, items_at, HasRoomAt}
use Rattle.cad_laws.specs.Local.{side_by}
use Rattle.cad_map.specs.declared.map_rows.MapRows.{MapRows}
use Rattle.map_parts.specs.declared.stars.Spoke.{Spoke}
use Rattle.map_parts.specs.Adding.{AreAdded, IsSeenAs}
use Rattle.map_parts.specs.Handing.{KeepsEnds}
use Rattle.map_parts.specs.Islands.{AreOfRings}
use Rattle.map_parts.specs.KeptRings.{KeepsRings}
use Rattle.map_parts.specs.Labels.{IsAlong, IsOnRing}
use Rattle.cad_map.specs.MapRows.{map_in}
use Rattle.map_parts.specs.Parts.{HasHalves}
use Rattle.map_parts.specs.Passing.{FitTable}
use Rattle.map_parts.specs.Splitting.{FitMap}
use Rattle.map_parts.specs.Stars.{spokes_at}
use Rattle.map_parts.specs.StringRows.{HasRoomFor}
use Rattle.map_parts.specs.TableGrown.{HasBesides, KeepsOrigins}
use Rattle.map_parts.proofs.AlongPaths.{is-on_path}
use Rattle.map_parts.proofs.HiddenStrings.{fit-shown, added-halves, added-loose}
use Rattle.map_parts.proofs.KeptShown.{adds-hidden, new-apart}

-- what holds whatever comes out holds where memory runs out
pub on-err : {A E P : Type 0} (r : Result A E) → P → OnErr r P
on-err (Ok x) holds = tt
on-err (Err e) holds = holds

-- and so does what follows from what holds
pub ok-follows : {A E P Q : Type 0} (r : Result A E) → (P → Q) → OnOk r P → OnOk r Q
ok-follows (Ok x) follows holds = follows holds
ok-follows (Err e) follows holds = tt

abbrev with_face : Face → List Half → List (Face × Half)
with_face f halves = map (λ h. (f, h)) halves

-- room for halves that are kept changes nothing of what is kept
pub fit-room : (m : Map) (rows : HalfRows) (held wide : Held Half) → IsSame held wide → FitTable m rows held → FitTable m rows wide
fit-room m rows held wide same fits = record {
  local = fits.local;
  ends = fits.ends;
  faces = fits.faces;
  kept = subst (KeepsRings m rows) (sym (each (faces m))) fits.kept;
  no_face = λ f none. same (face_place f) ∙ fits.no_face f none;
}
  where
    each : (fs : List Face) → flat_map (λ f. with_face f (items_at wide (face_place f))) fs
        ≡ flat_map (λ f. with_face f (items_at held (face_place f))) fs
    each [] = refl
    each (f ∷ fs) = λ i. with_face f (same (face_place f) i) ++ each fs i

module _ (m : Map) {rows : MapRows} {table : HalfRows} {held : Held Half} {stars : Held Spoke} (fits : FitMap m rows table held stars) where
  -- room changes nothing that is seen
  pub fit-seen : {more : MapRows} {wide : Held Half} {filled : Held Spoke} → IsSeenAs rows more held wide stars filled → FitMap m more table wide filled
  fit-seen {wide = wide} seen = record {
    rows_are = seen.same_rows ∙ fits.rows_are;
    fits = fit-room m table held wide seen.same_kept fits.fits;
    are_stars = λ p. subst (IsPermutation (spokes_at p m.strings)) (sym (seen.same_stars p)) (fits.are_stars p);
  }

  pub fit-grown : {more : MapRows} {wide : Held Half} → map_in more ≡ map_in rows → IsSame held wide → FitMap m more table wide stars
  fit-grown same alike = fit-seen (record { same_rows = same; same_kept = alike; same_stars = λ p. refl })

  -- nor does it where the table is the one that it was
  pub fit-kept : {more : MapRows} {new : HalfRows} {wide : Held Half} {filled : Held Spoke} → IsSeenAs rows more held wide stars filled → new ≡ table → FitMap m more new wide filled
  fit-kept {more} {new} {wide} {filled} seen same = subst (λ (t : HalfRows). FitMap m more t wide filled) (sym same) (fit-seen seen)

  -- nor do strings that the table has more
  pub added-fit : (added : List StringRow) (new : HalfRows) → AreNew table added → AddsStrings added table new → IsLinked new → FitMap m rows new held stars
  added-fit added new fresh adds linked = record {
    rows_are = fits.rows_are;
    fits = fit-shown m table new held (adds-hidden m table new added fresh fits.fits.local.there adds) linked fits.fits;
    are_stars = fits.are_stars;
  }

-- ---- Halves that were there

module _ {added : List StringRow} {table new : HalfRows} (fresh : AreNew table added) (adds : AddsStrings added table new) where
  -- each begins where it began
  pub still-origin : (h : Half) → has table h ≡ true → origin_of new h ≡ origin_of table h
  still-origin h there = adds.origin h (new-apart table added h fresh there)

  pub still-side : (h : Half) → has table h ≡ true → side_by new h ≡ side_by table h
  still-side h there = let away = new-apart table added h fresh there in λ i. (adds.origin h away i, adds.origin (twin h) away i)

  pub along-still : (m : Map) (s : Side) (h : Half) → IsAlong m table s h → IsAlong m new s h
  along-still m s h on = record {
    there = adds.has h ∙ ap (λ (b : Bool). if b then true else has table h) (new-apart table added h fresh on.there) ∙ on.there;
    shown = on.shown;
    side = still-side h on.there ∙ on.side;
  }

  on-still : (m : Map) (b : Boundary) (h : Half) → has table h ≡ true → IsOnRing m table b h → IsOnRing m new b h
  on-still m b h there on = record { shown = on.shown; side = subst (Contains (sides_of b.ring)) (sym (still-side h there)) on.side }

  pub of-still : (m : Map) (halves : List Half) (f : Face) (bs : List Boundary) → AreIn table halves → AreOfRings m table halves f bs → AreOfRings m new halves f bs
  of-still m halves f bs within of = record {
    each = All-from_each (λ h. (b : Boundary) × Contains bs b × IsOnRing m new b h × (b.face ≡ f)) halves (λ h among.
        let it = All-at_each (λ h. (b : Boundary) × Contains bs b × IsOnRing m table b h × (b.face ≡ f)) halves h of.each among in
        (it.0, it.1, on-still m it.0 h (there h among) it.2, it.3));
    all = λ b among is. let it = of.all b among is in (it.0, it.1, on-still m b it.0 (there it.0 it.1) it.2);
  }
    where
      there : (h : Half) → Contains halves h → has table h ≡ true
      there h among = All-at_each (λ h. has table h ≡ true) halves h within among

-- ---- Strings at hand

-- The parts are those of the map; the strings are in the table, loose, and there is room for them,
-- for a parcel, and for the halves that are kept of its rings.
pub record AreReady (m : Map) (added : List StringRow) (face : Face) (parcel : ℕ) (path : List Half) (rows : MapRows) (table : HalfRows) (held : Held Half) (stars : Held Spoke) : Type 0 where
  pub fits : FitMap m rows table held stars
  pub there : AllByRecursion (HasHalves table) added
  pub loose : AreLoose (next table) path
  pub slots : AllByRecursion (λ (s : StringRow). HasSlot rows.strings s.number) added
  pub parcel_slot : HasSlot rows.parcels parcel
  pub room : HasRoomFor added stars
  pub inner_room : HasRoomAt held (face_place (Parcel parcel)) (length (items_at held (face_place face)) + 2)
  pub outer_room : HasRoomAt held (face_place face) 2

pub ready : (m : Map) (added : List StringRow) (face : Face) (parcel : ℕ) (path : List Half) {rows more : MapRows} {table new : HalfRows} {held wide : Held Half} {stars filled : Held Spoke}
    → FitMap m rows table held stars → AreNew table added → strings_of path ≡ numbers_of added → HasRoomFor added filled
    → AreAdded added face parcel rows more table new held wide stars filled → AreReady m added face parcel path more new wide filled
ready m added face parcel path {table = table} {new = new} fits fresh named star_room it = record {
  fits = added-fit m (fit-seen m fits it.seen) added new fresh it.adds it.linked;
  there = added-halves added table new it.adds;
  loose = All-from_each (λ h. (next new h ≡ twin h) × (next new (twin h) ≡ h)) path (λ h among.
      added-loose added table new it.adds h (subst (λ (l : List ℕ). is_of l h ≡ true) named (is-on_path path h among)));
  slots = it.room.slots;
  parcel_slot = it.room.parcel_slot;
  room = star_room;
  inner_room = it.room.inner_room;
  outer_room = it.room.outer_room;
}

-- Strings were added, and the ends of all halves stay then.
module _ {added : List StringRow} {face : Face} {parcel : ℕ} {rows more : MapRows} {table new last : HalfRows} {held wide : Held Half} {stars filled : Held Spoke}
    (it : AreAdded added face parcel rows more table new held wide stars filled) (stay : KeepsEnds new last) where
  pub grown-has : HasBesides (numbers_of added) table last
  grown-has = λ h. stay.has h ∙ it.adds.has h

  pub grown-origins : AreNew table added → KeepsOrigins table last
  grown-origins fresh = λ h there. stay.origin h ∙ still-origin fresh it.adds h there
