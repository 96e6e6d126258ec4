-- A division on the parts of a map on half-edges, begun.
use Rattle.std.proofs.Common.{◌≡◌, ◌≤◌, ◌+◌, ◌*◌, ℕ, refl, sym, ap, subst, ◌∙◌, List, ◌∷◌, map, filter, length, true, if◌then◌else◌, arith}
use Rattle.std.specs.Prelude.{IsPermutation, Result, Ok, Err, OnOk, OnErr}
use Rattle.std.specs.List.{AllByRecursion, Contains}
use Rattle.cad_rows.specs.declared.names.Face.TheVariants.{Parcel}
use Rattle.cad_rows.specs.declared.rows.ParcelRow.{ParcelRow}
use Rattle.cad_rows.specs.declared.rows.StringRow.{StringRow}
use Rattle.cad_map.specs.declared.boundary.Boundary.{Boundary}
use Rattle.cad_map.specs.Boundaries.{face_place, is_face}
use Rattle.cad_map.specs.Effects.{after}
use Rattle.cad_map.specs.Map.{Map}
use Rattle.cad_map.specs.Rings.{HasWholeRings}
use Rattle.cad_map.proofs.CallerLemmas.{CanDivide as IsAllowed, All-at_each}
use Rattle.half_table.specs.declared.half.Half.{Half}
use Rattle.half_table.specs.Count.{greatest, ticked}
use Rattle.half_table.specs.Half.{forward_of, twin}
use Rattle.half_table.specs.Rows.{HalfRows, Table, has, origin_of, cycle}
use Rattle.half_table.proofs.Strings.{has-string}
use Rattle.half_paths.specs.Loose.{is_of, numbers_of}
use Rattle.half_paths.proofs.Along.{ticked-add}
use Rattle.key_lists.specs.Held.{Held, items_at, HasRoomAt}
use Rattle.cad_laws.specs.Counts.{sides_of_face}
use Rattle.cad_laws.specs.Local.{side_by}
use Rattle.cad_laws.specs.Tried.{IsTried}
use Rattle.cad_laws.proofs.CallerLemmas.{whole-after}
use Rattle.cad_surgery.specs.declared.edits.given.NewParcel.{NewParcel}
use Rattle.cad_map.specs.declared.map_rows.MapRows.{MapRows}
use Rattle.map_parts.specs.declared.stars.Spoke.{Spoke}
use Rattle.map_parts.specs.Parts.{HasHalves}
use Rattle.map_parts.specs.Relabelled.{cycles_length}
use Rattle.map_parts.specs.Handing.{home_of}
use Rattle.map_parts.specs.Islands.{AreOfRings}
use Rattle.map_parts.specs.Splitting.{FitMap}
use Rattle.map_parts.specs.Dividing.{IsDividing, divided, rings_beside, CanBeginDivide}
use Rattle.cad_surgery.specs.Divisions.{divided_by, HasCrossing}
use Rattle.map_parts.proofs.ChainRings.{first-on}
use Rattle.map_parts.proofs.KeptEach.{map-cong}
use Rattle.cad_surgery.proofs.RingLengths.{face-lengths, home-stays}
use Rattle.map_parts.proofs.Dividing as divides
use Rattle.cad_surgery.specs.declared.edits.merging.Way.TheVariants.{Along}
use Rattle.cad_surgery.specs.Enclosures.{parcel_by}
use Rattle.cad_surgery.specs.NewParcels.{IsNewOn, AreBeside, Begins, ticks_by}
use Rattle.cad_surgery.proofs.ParcelsTried.{added-long, new-strings, path-long, path-strings, put-in}
use Rattle.cad_surgery.proofs.WorkTaken.{ticks-just, ticks-fewer}

module _ {m : Map} {d : NewParcel} {start end : Half} {added : List StringRow} {row : ParcelRow} {first : Half} {others moved : List Half}
    {rows : MapRows} {table : Table} {held : Held Half} {stars : Held Spoke} (on : IsNewOn m (Along start end) d (first ∷ others) moved added row rows table held stars) where
  abbrev row_is : row ≡ parcel_by d
  row_is = on.comes.parcel_is

  abbrev path_is : first ∷ others ≡ map forward_of d.strings.now
  path_is = on.comes.path_is

  abbrev tried : IsTried m (divided_by d)
  tried = on.tried

  abbrev made : Map
  made = after m (divided_by d)

  abbrev path : List Half
  path = first ∷ others

  whole_made : HasWholeRings made
  whole_made = whole-after m (divided_by d) tried.valid tried.given tried.allowed tt

  abbrev pub cross : HasCrossing m table.rows d start end moved
  cross = on.comes.crossing

  abbrev pub is_it : IsDividing m d.face d.strings.now added d.parcel path
  is_it = record {
    chain = d.points.now;
    label = d.label.now;
    source = d.source;
    first = cross.first;
    last = cross.last;
    tried = tried;
    chosen = cross.chosen;
    divided = cross.divided;
    added_are = on.comes.strings_are;
    path_is = path_is;
  }

  can : IsAllowed m d.face d.points.now d.strings.now d.parcel d.label.now d.source
  can = divides.can m d.face d.strings.now added d.parcel path is_it

  numbered : numbers_of added ≡ d.strings.now
  numbered = divides.numbered m d.face d.strings.now added d.parcel path is_it

  abbrev own : CanBeginDivide d.face added (parcel_by d) path start end moved rows table.rows held stars
  own = record {
    map = m;
    numbers = d.strings.now;
    is = is_it;
    label_is = refl;
    sources_are = refl;
    fits = on.fits;
    new = new-strings added d.strings.now numbered m table.rows on.all can.rows.strings_new;
    start_on = cross.start_on;
    end_on = cross.end_on;
    moved_in = cross.moved_in;
    moved_are = cross.moved_are;
  }

  pub begins : CanBeginDivide d.face added row path start end moved rows table.rows held stars
  begins = subst (λ (r : ParcelRow). CanBeginDivide d.face added r path start end moved rows table.rows held stars) (sym row_is) own

  abbrev Can : ParcelRow → Type 0
  Can r = CanBeginDivide d.face added r path start end moved rows table.rows held stars

  module _ {new : MapRows} {t : HalfRows} {put : Held Half} {wide : Held Spoke} where
    -- where memory ran out
    left-fits : ((c : Can row) → FitMap c.map new t put wide) → FitMap m new t put wide
    left-fits each = subst (λ (r : ParcelRow). ((c : Can r) → FitMap c.map new t put wide) → FitMap m new t put wide) (sym row_is) (λ f. f own) each

    -- where it is made
    module _ (each : (c : Can row) → FitMap (divided c.is) new t put wide) (moved_now : (c : Can row) → AreOfRings (divided c.is) t moved (Parcel row.number) (rings_beside c.is)) where
      made-fits : FitMap made new t put wide
      made-fits = subst (λ (r : ParcelRow). ((c : Can r) → FitMap (divided c.is) new t put wide) → FitMap made new t put wide) (sym row_is) (λ f. f own) each

      ends : AllByRecursion (HasHalves t) added
      ends = (divides.added-ends m d.face d.strings.now added d.parcel path is_it t made-fits.fits.ends).1

      moved_here : AreOfRings made t moved (Parcel d.parcel) (rings_beside is_it)
      moved_here =
          subst (λ (r : ParcelRow). ((c : Can r) → AreOfRings (divided c.is) t moved (Parcel r.number) (rings_beside c.is)) → AreOfRings made t moved (Parcel d.parcel) (rings_beside is_it)) (sym row_is)
          (λ f. f own) moved_now

      -- the rings of the new parcel
      module _ (origins : (h : Half) → has table.rows h ≡ true → origin_of t h ≡ origin_of table.rows h) where
        side_stays : (h : Half) → Contains moved h → side_by t h ≡ side_by table.rows h
        side_stays h among =
            let there = All-at_each (λ h. has table.rows h ≡ true) moved h cross.moved_in among in
            let back : has table.rows (twin h) ≡ true = has-string table.rows (twin h) ∙ sym (has-string table.rows h) ∙ there in
            λ i. (origins h there i, origins (twin h) back i)

        once_here : IsPermutation (map (home_of made t) moved) (filter (λ b. is_face (Parcel d.parcel) b.face) (rings_beside is_it))
        once_here =
            subst (λ (l : List Boundary). IsPermutation l (filter (λ b. is_face (Parcel d.parcel) b.face) (rings_beside is_it)))
            (map-cong (home_of made table.rows) (home_of made t) moved (λ h among. sym (home-stays made table.rows t h (side_stays h among)))) cross.once

        all-rings : length (cycle t first) + cycles_length t moved ≡ sides_of_face (Parcel d.parcel) made
        all-rings =
            let law = divides.chain-of m d.face d.strings.now added d.parcel path is_it in
            face-lengths made whole_made t made-fits.fits.local (Parcel d.parcel) (divides.left_ring m d.face d.strings.now added d.parcel path is_it)
            (divides.right_ring m d.face d.strings.now added d.parcel path is_it) (rings_beside is_it) law.were law.left_face (λ e. law.differ (sym law.right_face ∙ e)) first
            (first-on m made d.face (Parcel d.parcel) d.points.now cross.first cross.last cross.divided.cut (divides.left_ring m d.face d.strings.now added d.parcel path is_it)
            (divides.right_ring m d.face d.strings.now added d.parcel path is_it) (rings_beside is_it) law whole_made (divides.chain-long m d.face d.strings.now added d.parcel path is_it)
            first others (divides.more m d.face d.strings.now added d.parcel path is_it) t (divides.along m d.face d.strings.now added d.parcel path is_it t ends))
            moved moved_here once_here

  pub begun : {A E : Type 0} {new : MapRows} {t : Table} {put : Held Half} {wide : Held Spoke} {r : Result A E} → table.work ≤ greatest → ((c : Can row) → OnOk r (FitMap (divided c.is) new t.rows put wide)) → ((c : Can row) → OnErr r (FitMap c.map new t.rows put wide))
      → OnErr r (t.rows ≡ table.rows) → ((c : Can row) → OnOk r (AreOfRings (divided c.is) t.rows moved (Parcel row.number) (rings_beside c.is)))
      → OnOk r (HasRoomAt put (face_place (Parcel row.number)) (length (items_at put (face_place d.face))))
      → OnOk r (HasRoomAt put (face_place d.face) (length (items_at put (face_place (Parcel row.number))) + 1))
      → OnOk r ((h : Half) → has t.rows h ≡ (if is_of (numbers_of added) h then true else has table.rows h))
      → OnOk r ((h : Half) → has table.rows h ≡ true → origin_of t.rows h ≡ origin_of table.rows h)
      → OnOk r (t.work ≡ ticked (2 + 2 * length others + (length others + 2) + (length (cycle t.rows first) + cycles_length t.rows moved)) (ticked (length added) table.work))
      → OnErr r ((count : ℕ) × (count ≤ length added) × (t.work ≡ ticked count (ticked count table.work)))
      → Begins m (Along start end) d path moved table new t put wide r
  begun {new = new} {t = t} {put = put} {wide = wide} {r = Ok a} within each err same moved_now inner_room outer_room some origins work few =
      let beside : AreBeside path m t.rows = λ h. some h ∙ (λ i. if is_of (sym (path-strings added d.strings.now numbered path_is) i) h then true else on.all h i) in
      let b = path-long d.strings.now path_is in
      let c = all-rings each moved_now origins in
      let n = added-long added d.strings.now numbered in
      let number = ap (λ (r : ParcelRow). r.number) row_is in
      let ticks = 2 + 2 * length others + (length others + 2) + (length (cycle t.rows first) + cycles_length t.rows moved) in
      put-in within whole_made (divides.more m d.face d.strings.now added d.parcel path is_it) beside (made-fits each moved_now) (record {
        some = omega arith;
        long = path-long d.strings.now path_is;
        new = (divides.more m d.face d.strings.now added d.parcel path is_it).new;
        different = divides.different m d.face d.strings.now added d.parcel path is_it;
        beside = beside;
        ticks = ticks-fewer table t (length added + ticks) (ticks_by m (Along start end) d) (omega (arith, b, c, n))
            (ticks-just table t (length added + ticks) (work ∙ sym (ticked-add (length added) ticks table.work)));
        undo = (
          record {
            map = m;
            added = added;
            is = is_it;
            fits = made-fits each moved_now;
            moved_are = moved_here each moved_now;
            inner_room = subst (λ (n : ℕ). HasRoomAt put (face_place (Parcel n)) (length (items_at put (face_place d.face)))) number inner_room;
            outer_room = subst (λ (n : ℕ). HasRoomAt put (face_place d.face) (length (items_at put (face_place (Parcel n))) + 1)) number outer_room;
          },
          refl,
        );
        few = omega (arith, b, c);
      })
  begun {t = t} {r = Err f} within each err same moved_now inner_room outer_room some origins work few =
      let most = few.1 in
      let n = added-long added d.strings.now numbered in
      record {
        within = within;
        put = tt;
        back = tt;
        err = left-fits err;
        err_rows = same;
        err_ticks = ticks-fewer table t (few.0 + few.0) (ticks_by m (Along start end) d) (omega (arith, most, n)) (ticks-just table t (few.0 + few.0) (few.2 ∙ sym (ticked-add few.0 few.0 table.work)));
      }
