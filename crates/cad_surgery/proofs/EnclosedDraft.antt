-- An enclosure on the parts of a map on half-edges, begun.
use Rattle.std.proofs.Common.{◌≡◌, ◌≤◌, ◌<◌, ◌+◌, ◌*◌, ℕ, refl, sym, ap, subst, ◌∙◌, List, ◌∷◌, map, length, true, if◌then◌else◌, arith}
use Rattle.std.specs.List.{AllByRecursion}
use Rattle.cad_rows.specs.declared.edits.Edit.{Edit}
use Rattle.cad_rows.specs.declared.edits.Edit.TheVariants.{Enclose}
use Rattle.cad_rows.specs.declared.names.Face.TheVariants.{Parcel}
use Rattle.cad_rows.specs.declared.rows.ParcelRow.{ParcelRow}
use Rattle.cad_rows.specs.declared.rows.StringRow.{StringRow}
use Rattle.cad_map.specs.Boundaries.{face_place}
use Rattle.cad_map.specs.Division.{hole_placed}
use Rattle.cad_map.specs.Effects.{after}
use Rattle.cad_map.specs.Map.{Map}
use Rattle.cad_map.specs.Rings.{HasWholeRings}
use Rattle.cad_map.proofs.CallerLemmas.{allowed, can-enclose}
use Rattle.half_table.specs.declared.half.Half.{Half}
use Rattle.half_table.specs.Count.{greatest, ticked}
use Rattle.half_table.specs.Half.{forward_of, twin}
use Rattle.half_table.specs.Rows.{HalfRows, Table, has, cycle}
use Rattle.half_paths.specs.Loose.{is_of, numbers_of}
use Rattle.key_lists.specs.Held.{Held, items_at, HasRoomAt}
use Rattle.cad_laws.specs.Counts.{sides_of_face}
use Rattle.cad_laws.specs.Local.{IsShown, side_by}
use Rattle.cad_laws.specs.Tried.{IsTried}
use Rattle.cad_laws.proofs.CallerLemmas.{whole-after}
use Rattle.cad_surgery.specs.declared.edits.given.NewParcel.{NewParcel}
use Rattle.cad_map.specs.declared.map_rows.MapRows.{MapRows}
use Rattle.map_parts.specs.declared.stars.Spoke.{Spoke}
use Rattle.map_parts.specs.Parts.{HasHalves}
use Rattle.map_parts.specs.Relabelled.{cycles_length}
use Rattle.map_parts.specs.Islands.{AreOfRings}
use Rattle.map_parts.specs.Splitting.{FitMap}
use Rattle.map_parts.specs.Enclosing.{IsEnclosing, enclosed, rings_placed, CanBeginEnclose}
use Rattle.cad_surgery.specs.Enclosures.{enclosed_by, parcel_by}
use Rattle.cad_surgery.proofs.EnclosedWork.{inner-long, outer-long, moved-long}
use Rattle.map_parts.proofs.IslandTable.{more-old}
use Rattle.map_parts.proofs.Enclosing as encloses
use Rattle.std.specs.Prelude.{Result, Ok, Err, OnOk, OnErr}
use Rattle.cad_surgery.specs.declared.edits.merging.Way.TheVariants.{Round}
use Rattle.cad_surgery.specs.NewParcels.{IsNewOn, AreBeside, Begins, ticks_by}
use Rattle.cad_surgery.proofs.ParcelsTried.{added-long, new-strings, path-long, path-strings, put-in}
use Rattle.cad_surgery.proofs.WorkTaken.{ticks-just, ticks-fewer}

-- an enclosure that is tried has three points or more
pub enclosure-long : (m : Map) (e : NewParcel) → IsTried m (enclosed_by e) → 3 ≤ length e.points.now
enclosure-long m e tried =
    (can-enclose m e.face e.points.now e.strings.now e.parcel e.label.now e.source tried.given
    (allowed m (enclosed_by e) tried.allowed)).long

-- and a string for each
pub enclosure-many : (m : Map) (e : NewParcel) → IsTried m (enclosed_by e) → length e.strings.now ≡ length e.points.now
enclosure-many m e tried =
    (can-enclose m e.face e.points.now e.strings.now e.parcel e.label.now e.source tried.given
    (allowed m (enclosed_by e) tried.allowed)).as_many

-- a path along the strings of an enclosure has a first half
pub path-some : (e : NewParcel) {m : Map} → IsTried m (enclosed_by e) → {path : List Half} → path ≡ map forward_of e.strings.now → 0 < length path
path-some e {m} tried path_is =
    let long = enclosure-long m e tried in
    let as_many = enclosure-many m e tried in
    let same = path-long e.strings.now path_is in
    omega (arith, long, as_many, same)

module _ {m : Map} {e : NewParcel} {added : List StringRow} {row : ParcelRow} {first : Half} {others moved : List Half}
    {rows : MapRows} {table : Table} {held : Held Half} {stars : Held Spoke} (on : IsNewOn m Round e (first ∷ others) moved added row rows table held stars) where
  abbrev row_is : row ≡ parcel_by e
  row_is = on.comes.parcel_is

  abbrev path_is : first ∷ others ≡ map forward_of e.strings.now
  path_is = on.comes.path_is

  abbrev tried : IsTried m (enclosed_by e)
  tried = on.tried

  -- the edit, with a number for its parcel
  abbrev numbered : ℕ → Edit
  numbered n = Enclose e.face e.points.now e.strings.now n e.label.now e.source

  abbrev made : Map
  made = after m (enclosed_by e)

  abbrev path : List Half
  path = first ∷ others

  whole_made : HasWholeRings made
  whole_made = whole-after m (enclosed_by e) tried.valid tried.given tried.allowed tt

  pub number : row.number ≡ e.parcel
  number = ap (λ (r : ParcelRow). r.number) row_is

  abbrev is_it : IsEnclosing m e.face e.strings.now added e.parcel path
  is_it = record { points = e.points.now; label = e.label.now; source = e.source; tried = tried; added_are = on.comes.strings_are; path_is = path_is }

  abbrev is_row : IsEnclosing m e.face e.strings.now added row.number path
  is_row = record {
    points = e.points.now;
    label = e.label.now;
    source = e.source;
    tried = subst (λ (n : ℕ). IsTried m (numbered n)) (sym number) tried;
    added_are = on.comes.strings_are;
    path_is = path_is;
  }

  abbrev strings : numbers_of added ≡ e.strings.now
  strings = encloses.numbered m e.face e.strings.now added e.parcel path is_it

  abbrev pub begins : CanBeginEnclose e.face added row path moved rows table.rows held stars
  begins = record {
    map = m;
    numbers = e.strings.now;
    is = is_row;
    label_is = ap (λ (r : ParcelRow). r.label) row_is;
    sources_are = ap (λ (r : ParcelRow). r.sources) row_is;
    fits = on.fits;
    new = new-strings added e.strings.now strings m table.rows on.all (encloses.can m e.face e.strings.now added e.parcel path is_it).rows.strings_new;
    holes = on.comes.holes;
  }

  abbrev Can : Type 0
  Can = CanBeginEnclose e.face added row path moved rows table.rows held stars

  module _ {new : MapRows} {t : HalfRows} {put : Held Half} {wide : Held Spoke} where
    module _ (each : (c : Can) → FitMap (enclosed c.is) new t put wide) (sides : (c : Can) → (h : Half) → IsShown c.map h → side_by t h ≡ side_by table.rows h) where
      made-fits : FitMap made new t put wide
      made-fits = subst (λ (n : ℕ). FitMap (after m (numbered n)) new t put wide) number (each begins)

      ends : AllByRecursion (HasHalves t) added
      ends = (encloses.added-ends m e.face e.strings.now added e.parcel path is_it t made-fits.fits.ends).1

      as_many : length e.strings.now ≡ length e.points.now
      as_many = (encloses.can m e.face e.strings.now added e.parcel path is_it).as_many

      inner-ring : length (cycle t first) ≡ length e.points.now
      inner-ring = inner-long m e.face e.strings.now added e.parcel first others is_it t made-fits.fits.local ends

      outer-ring : length (cycle t (twin first)) ≡ length e.points.now
      outer-ring = outer-long m e.face e.strings.now added e.parcel first others is_it t made-fits.fits.local ends

      all-rings : length e.points.now + cycles_length t moved ≤ sides_of_face (Parcel e.parcel) made
      all-rings =
          moved-long m e.face e.strings.now added e.parcel first others is_it t made-fits.fits.local ends table.rows
          (more-old m made path (encloses.more m e.face e.strings.now added e.parcel path is_it)) (sides begins) moved begins.holes

  pub begun : {A E : Type 0} {new : MapRows} {t : Table} {put : Held Half} {wide : Held Spoke} {r : Result A E} → table.work ≤ greatest → ((c : Can) → OnOk r (FitMap (enclosed c.is) new t.rows put wide)) → ((c : Can) → OnErr r (FitMap c.map new t.rows put wide))
      → OnErr r (t.rows ≡ table.rows) → ((c : Can) → OnOk r (AreOfRings (enclosed c.is) t.rows moved (Parcel row.number) (rings_placed c.is)))
      → OnOk r (HasRoomAt put (face_place (Parcel row.number)) (length (items_at put (face_place e.face))))
      → OnOk r (HasRoomAt put (face_place e.face) (length (items_at put (face_place (Parcel row.number)))))
      → OnOk r ((h : Half) → has t.rows h ≡ (if is_of (numbers_of added) h then true else has table.rows h))
      → ((c : Can) → OnOk r ((h : Half) → IsShown c.map h → side_by t.rows h ≡ side_by table.rows h))
      → OnOk r (t.work ≡ ticked (length added + (length others + 1 + (length (cycle t.rows first) + (length (cycle t.rows (twin first)) + cycles_length t.rows moved)))) table.work)
      → OnErr r ((count : ℕ) × (count ≤ 2 * length added) × (t.work ≡ ticked count table.work))
      → Begins m Round e path moved table new t put wide r
  begun {new = new} {t = t} {put = put} {wide = wide} {r = Ok a} within each err same moved_now inner_room outer_room some sides work few =
      let beside : AreBeside path m t.rows = λ h. some h ∙ (λ i. if is_of (sym (path-strings added e.strings.now strings path_is) i) h then true else on.all h i) in
      let b = path-long e.strings.now path_is in
      let c = all-rings each sides in
      let n = added-long added e.strings.now strings in
      let inner = inner-ring each sides in
      let outer = outer-ring each sides in
      let many = as_many each sides in
      let ticks = length added + (length others + 1 + (length (cycle t.rows first) + (length (cycle t.rows (twin first)) + cycles_length t.rows moved))) in
      put-in within whole_made (encloses.more m e.face e.strings.now added e.parcel path is_it) beside (made-fits each sides) (record {
        some = omega arith;
        long = path-long e.strings.now path_is;
        new = (encloses.more m e.face e.strings.now added e.parcel path is_it).new;
        different = encloses.different m e.face e.strings.now added e.parcel path is_it;
        beside = beside;
        ticks = ticks-fewer table t ticks (ticks_by m Round e) (omega (arith, b, c, n, inner, outer, many)) (ticks-just table t ticks work);
        undo = (
          record {
            map = m;
            added = added;
            is = is_it;
            fits = made-fits each sides;
            moved_are =
                subst (λ (n : ℕ). AreOfRings (after m (numbered n)) t.rows moved (Parcel n) (map (hole_placed m e.face (Parcel n) e.points.now) m.boundaries))
                number (moved_now begins);
            inner_room = subst (λ (n : ℕ). HasRoomAt put (face_place (Parcel n)) (length (items_at put (face_place e.face)))) number inner_room;
            outer_room = subst (λ (n : ℕ). HasRoomAt put (face_place e.face) (length (items_at put (face_place (Parcel n))))) number outer_room;
          },
          refl,
        );
        few = omega (arith, b, c, outer, many);
      })
  begun {t = t} {r = Err f} within each err same moved_now inner_room outer_room some sides work few =
      let most = few.1 in
      let n = added-long added e.strings.now strings in
      record {
        within = within;
        put = tt;
        back = tt;
        err = err begins;
        err_rows = same;
        err_ticks = ticks-fewer table t few.0 (ticks_by m Round e) (omega (arith, most, n)) (ticks-just table t few.0 few.2);
      }
