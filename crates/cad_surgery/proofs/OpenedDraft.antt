-- An enclosure that was made, in a table of the map after it.
use Rattle.std.proofs.Common.{◌≡◌, ◌≤◌, refl, sym, ap, ◌∙◌, List, ◌∷◌, map, length}
use Rattle.std.proofs.lemmas.List.{length-map}
use Rattle.cad_rows.specs.declared.names.Face.TheVariants.{Parcel}
use Rattle.cad_map.specs.Effects.{after}
use Rattle.cad_map.specs.Map.{Map}
use Rattle.cad_map.specs.Rings.{HasWholeRings}
use Rattle.half_table.specs.declared.half.Half.{Half}
use Rattle.half_table.specs.Half.{forward_of, twin}
use Rattle.half_table.specs.Rows.{HalfRows, cycle}
use Rattle.half_paths.specs.Path.{AreDifferent}
use Rattle.key_lists.specs.Held.{Held}
use Rattle.cad_laws.specs.Counts.{sides_of_face}
use Rattle.cad_laws.specs.Tried.{IsTried}
use Rattle.cad_laws.proofs.CallerLemmas.{whole-after}
use Rattle.cad_surgery.specs.declared.edits.given.NewParcel.{NewParcel}
use Rattle.cad_map.specs.declared.map_rows.MapRows.{MapRows}
use Rattle.map_parts.specs.declared.stars.Spoke.{Spoke}
use Rattle.map_parts.specs.Enclosing.{IsEnclosing, CanBeginOpen, enclosed}
use Rattle.cad_surgery.specs.Enclosures.{enclosed_by, strings_by}
use Rattle.edit_records.specs.HeldChains.{HeldIsland}
use Rattle.map_parts.specs.Placed.{AreOfHoles}
use Rattle.map_parts.specs.Paths.{HasStringsMore}
use Rattle.map_parts.specs.Parts.{Parts, FitTogether, map_of}
use Rattle.map_parts.specs.Relabelled.{cycles_length}
use Rattle.map_parts.specs.Splitting.{FitMap}
use Rattle.cad_surgery.proofs.EnclosedWork.{outer-long}
use Rattle.map_parts.proofs.Enclosing as encloses
use Rattle.cad_surgery.proofs.HeldEnclosures.{holes-named, named-rings, named-length}

-- the halves that are kept of the holes name the rings that pass over
pub names : (d : Parts) → FitTogether d → (e : NewParcel) → IsTried (map_of d) (enclosed_by e) → (moved : List Half)
    → AreOfHoles (map_of d) d.table.rows e.face e.points.now moved
    → HeldIsland (after (map_of d) (enclosed_by e)) (Parcel e.parcel) e.points.now moved
names d fit e tried moved holes =
    holes-named (map_of d) e.face e.strings.now (strings_by e) e.parcel (map forward_of e.strings.now)
    (record { points = e.points.now; label = e.label.now; source = e.source; tried = tried; added_are = refl; path_is = refl })
    d.table.rows fit.ends moved holes

module _ {m : Map} (e : NewParcel) (tried : IsTried m (enclosed_by e)) {path : List Half} (path_is : path ≡ map forward_of e.strings.now) where
  abbrev now : Map
  now = after m (enclosed_by e)

  pub whole_now : HasWholeRings now
  whole_now = whole-after m (enclosed_by e) tried.valid tried.given tried.allowed tt

  abbrev pub is_it : IsEnclosing m e.face e.strings.now (strings_by e) e.parcel path
  is_it = record { points = e.points.now; label = e.label.now; source = e.source; tried = tried; added_are = refl; path_is = path_is }

  pub more : HasStringsMore m now path
  more = encloses.more m e.face e.strings.now (strings_by e) e.parcel path is_it

  pub differ : AreDifferent path
  differ = encloses.different m e.face e.strings.now (strings_by e) e.parcel path is_it

  -- in a table of the map after it, where the halves name the parcel's other rings
  pub begins : {rows : MapRows} {table : HalfRows} {held : Held Half} {stars : Held Spoke} → FitMap now rows table held stars → {moved : List Half} → HeldIsland now (Parcel e.parcel) e.points.now moved
      → (can : CanBeginOpen e.face e.strings.now e.parcel path moved rows table held stars) × (can.map ≡ m) × (enclosed can.is ≡ now)
  begins {table = table} fits {moved} named = (
    record {
      map = m;
      added = strings_by e;
      is = is_it;
      fits = fits;
      moved_are = named-rings m e.face e.strings.now (strings_by e) e.parcel path is_it table fits.fits.ends moved named;
    },
    refl,
    refl,
  )

-- the halves along the ring outside are as many as the points, those of the other rings no more than the parcel's sides
pub rings-few : {m : Map} (e : NewParcel) (tried : IsTried m (enclosed_by e)) {first : Half} {others : List Half} → first ∷ others ≡ map forward_of e.strings.now
    → {rows : MapRows} {table : HalfRows} {held : Held Half} {stars : Held Spoke} → FitMap (after m (enclosed_by e)) rows table held stars
    → {moved : List Half} → HeldIsland (after m (enclosed_by e)) (Parcel e.parcel) e.points.now moved
    → (length (cycle table (twin first)) ≡ length (first ∷ others)) × (cycles_length table moved ≤ sides_of_face (Parcel e.parcel) (after m (enclosed_by e)))
rings-few {m} e tried {first} {others} path_is {table = table} fits {moved} named =
    let is = is_it e tried path_is in
    let ends = (encloses.added-ends m e.face e.strings.now (strings_by e) e.parcel (first ∷ others) is table fits.fits.ends).1 in (
      outer-long m e.face e.strings.now (strings_by e) e.parcel first others is table fits.fits.local ends
          ∙ sym (encloses.can m e.face e.strings.now (strings_by e) e.parcel (first ∷ others) is).as_many ∙ sym (ap length path_is ∙ length-map e.strings.now forward_of),
      named-length m e.face e.strings.now (strings_by e) e.parcel first others is table fits.fits.local fits.fits.ends moved named,
    )
