-- The records of a valid map's plan give the map's rows again.
use Rattle.std.proofs.Common.{◌≡◌, ◌≢◌, ◌∙◌, sym, ap, refl, ℕ, ◌+◌, ◌<◌, ◌≤◌, ◌==◌, List, [], ◌∷◌, ◌++◌, map, find, length, length-append, true, false, None, Some, is_some, arith, inl, inr, nat_lt, nat_le, append_assoc, append-nil, decimal}
use Rattle.std.specs.Prelude.{fold, ℤ, IsTrue, codes, unwrap_or, option_map}
use Rattle.std.specs.List.{list_any, AllByRecursion}
use Rattle.std.specs.Str.{bytes_eq}
use Rattle.std.proofs.lemmas.Bool.{cases_Bool, ne_eqb, eqb-true}
use Rattle.std.proofs.lemmas.Bool.Decides.{nat_tests}
use Rattle.std.proofs.lemmas.Int.{ints}
use Rattle.std.proofs.lemmas.List.{length-map}
use Rattle.std.proofs.lemmas.Slice.Eq.{bytes_eq-Decides}
use Rattle.std.proofs.lemmas.List.Sums.{fold-append}
use Rattle.geo_exact.specs.Position.{OnTheMap, InRange, in_range}
use Rattle.cad_rows.specs.Limits.{IsNumber, IsLabel, row_limit, string_limit, source_limit}
use Rattle.cad_rows.specs.declared.names.Face.{Face}
use Rattle.cad_rows.specs.declared.names.Face.TheVariants.{Outside, Parcel}
use Rattle.cad_rows.specs.declared.rows.PointRow.{PointRow}
use Rattle.cad_rows.specs.declared.rows.ParcelRow.{ParcelRow}
use Rattle.cad_rows.specs.declared.rows.StringRow.{StringRow}
use Rattle.cad_rows.specs.declared.rows.SourceRow.{SourceRow}
use Rattle.cad_rings.specs.Cycle.{Side, has_side, opposite, sides_of}
use Rattle.cad_map.specs.declared.boundary.Boundary.{Boundary}
use Rattle.cad_map.specs.Map.{Map, has_point, has_face, face_at, side_of}
use Rattle.numbered_rows.specs.Rows.{row_with}
use Rattle.cad_map.specs.Valid.{EachPair, AreSources, HasSoundRows, IsValid}
use Rattle.cad_files.specs.Fields.{repeated, distinct_of, face_of, magnitude_of, number_of, number_and_text_of}
use Rattle.cad_files.specs.Rows.{Rows, no_rows, IsFace}
use Rattle.cad_files.specs.PlanRecords.{plan_of_fields, source_of_fields, point_of_fields, parcel_of_fields, string_of_fields, version_of}
use Rattle.cad_files.specs.Plan.{Plan, plan_of, plan_step, beginning, reading, opened}
use Rattle.cad_files.specs.Texts.{Record, first_record, source_record, point_record, parcel_record, string_record, retired_record, open_record, face_field, plan_records, text_of, record_text}
use Rattle.cad_files.specs.Building.{plan_string_of, rows_of}
use Rattle.cad_files.specs.declared.rows.PlanString.{PlanString}
use Rattle.cad_files.specs.declared.plan_records.Version.TheVariants.{Two}
use Rattle.cad_files.specs.Input.{IsWhole}
use Rattle.csv.specs.Machine.{next_record}
use Rattle.csv.specs.Reading.{Reached, default_config}
use Rattle.csv.specs.Writing.{read_back}
use Rattle.csv.specs.declared.parser.State.TheVariants as st
use Rattle.csv.proofs.RoundTrip.{read-write}
use Rattle.cad_files.proofs.DecimalFacts.{number_again, coordinate_again, text_again, list_again}

-- ---- No number stands twice

none-among : (n : ℕ) (before : List ℕ) → AllByRecursion (λ k. k ≢ n) before → list_any (λ k. k == n) before ≡ false
none-among n [] all = refl
none-among n (k ∷ before) all = rw (ne_eqb k n all.0) (none-among n before all.1)

others-push : (m : ℕ) (before ns : List ℕ) → AllByRecursion (λ n. AllByRecursion (λ k. k ≢ n) before) ns → AllByRecursion (λ n. m ≢ n) ns → AllByRecursion (λ n. AllByRecursion (λ k. k ≢ n) (before ++ m ∷ [])) ns
others-push m before [] all new = tt
others-push m before (n ∷ ns) all new = (one before all.0, others-push m before ns all.1 new.1)
  where
    one : (l : List ℕ) → AllByRecursion (λ k. k ≢ n) l → AllByRecursion (λ k. k ≢ n) (l ++ m ∷ [])
    one [] h = (new.0, tt)
    one (k ∷ l) h = (h.0, one l h.1)

pub repeated-none : (before ns : List ℕ) → EachPair (λ a b. a ≢ b) ns → AllByRecursion (λ n. AllByRecursion (λ k. k ≢ n) before) ns → repeated before ns ≡ None
repeated-none before [] each all = refl
repeated-none before (n ∷ ns) each all = rw (none-among n before all.0) (repeated-none (before ++ n ∷ []) ns each.1 (others-push n before ns all.1 each.0))

nothing-before : (ns : List ℕ) → AllByRecursion (λ n. AllByRecursion (λ k. k ≢ n) []) ns
nothing-before [] = tt
nothing-before (n ∷ ns) = (tt, nothing-before ns)

pub distinct-once : (ns : List ℕ) → EachPair (λ a b. a ≢ b) ns → repeated [] ns ≡ None
distinct-once ns each = repeated-none [] ns each (nothing-before ns)

-- ---- What is named has a number in range

module _ {R : Type 0} (number : R → ℕ) where
  found-number : (rows : List R) (n : ℕ) → AllByRecursion IsNumber (map number rows) → IsTrue (is_some (row_with number n rows)) → IsNumber n
  found-number [] n all found = cc found
  found-number (r ∷ rows) n all found = elim (cases_Bool (number r == n)) [
    | inl same ↦ let e = eqb-true (number r) n same in rw e at all.0
    | inr other ↦ found-number rows n all.1 (rw other at found)
  ]

numbers-found : (rows : List SourceRow) (ns : List ℕ) → AllByRecursion IsNumber (map (λ r. r.number) rows) → AllByRecursion (λ s. IsTrue (is_some (row_with (λ (r : SourceRow). r.number) s rows))) ns → AllByRecursion IsNumber ns
numbers-found rows [] all found = tt
numbers-found rows (n ∷ ns) all found = (found-number (λ (r : SourceRow). r.number) rows n all found.0, numbers-found rows ns all found.1)

-- ---- One record more

-- sources that a list of an item reads as
record AreReadable (sources : List ℕ) : Type 0 where
  numbers : AllByRecursion IsNumber sources
  once : repeated [] sources ≡ None
  few : length sources ≤ source_limit

readable : (rows : List SourceRow) (sources : List ℕ) → AllByRecursion IsNumber (map (λ r. r.number) rows) → AreSources rows sources → AreReadable sources
readable rows sources known named = record { numbers = numbers-found rows sources known named.known; once = distinct-once sources named.distinct; few = named.few }

less : (n limit : ℕ) → n < limit → nat_lt n limit ≡ true
less n limit h = grind (arith, nat_tests)

at_most : (n limit : ℕ) → n ≤ limit → nat_le n limit ≡ true
at_most n limit h = grind (arith, nat_tests)

source_step : (n : ℕ) (rows : Rows) (s : SourceRow) → IsNumber s.number → IsLabel s.text → length rows.sources < row_limit
    → plan_step (reading Two n rows) (source_record s) ≡ reading Two (n + 1) (record rows { sources = rows.sources ++ s ∷ [] })
unfolding plan_step plan_of_fields source_of_fields number_and_text_of
source_step n rows s number text room =
    rw (number_again s.number number.some (omega (arith, number.within)), text_again s.text text, less (length rows.sources) row_limit room) refl

within : (z : ℤ) → InRange z → in_range z ≡ true
within z range =
    let low = range.low in
    let high = range.high in
    grind (arith, ints, nat_tests)

point_step : (n : ℕ) (rows : Rows) (p : PointRow) → IsNumber p.number → OnTheMap p.position → AreReadable p.sources → length rows.points < row_limit
    → plan_step (reading Two n rows) (point_record p) ≡ reading Two (n + 1) (record rows { points = rows.points ++ p ∷ [] })
unfolding plan_step plan_of_fields point_of_fields distinct_of
point_step n rows p number position sources room =
    rw (
      number_again p.number number.some (omega (arith, number.within)),
      coordinate_again p.position.x position.x_in_range,
      coordinate_again p.position.y position.y_in_range,
      list_again p.sources sources.numbers,
      sources.once,
      within p.position.x position.x_in_range,
      within p.position.y position.y_in_range,
      at_most (length p.sources) source_limit sources.few,
      less (length rows.points) row_limit room,
    ) refl

parcel_step : (n : ℕ) (rows : Rows) (p : ParcelRow) → IsNumber p.number → IsLabel p.label → AreReadable p.sources → length rows.parcels < row_limit
    → plan_step (reading Two n rows) (parcel_record p) ≡ reading Two (n + 1) (record rows { parcels = rows.parcels ++ p ∷ [] })
unfolding plan_step plan_of_fields parcel_of_fields distinct_of
parcel_step n rows p number label sources room =
    rw (
      number_again p.number number.some (omega (arith, number.within)),
      text_again p.label label,
      list_again p.sources sources.numbers,
      sources.once,
      at_most (length p.sources) source_limit sources.few,
      less (length rows.parcels) row_limit room,
    ) refl

-- the digits of a number are not those of the outside
no_outside : (n : ℕ) → IsNumber n → bytes_eq (decimal n) (codes "0") ≡ false
unfolding magnitude_of
no_outside n number = elim (cases_Bool (bytes_eq (decimal n) (codes "0"))) [
  | inl same ↦
      let none : Some n ≡ None = sym (number_again n number.some (omega (arith, number.within))) ∙ ap number_of ((bytes_eq-Decides (decimal n) (codes "0")).0 same) in
      cc
  | inr other ↦ other
]

face_again : (f : Face) → IsFace f → face_of (face_field f) ≡ Some f
unfolding face_of
face_again Outside range = refl
face_again (Parcel n) range =
    let number = range n refl in
    rw (no_outside n number, number_again n number.some (omega (arith, number.within))) refl

string_step : (n : ℕ) (rows : Rows) (s : PlanString) → IsNumber s.row.number → IsNumber s.row.from × IsNumber s.row.to → IsFace s.left × IsFace s.right → AreReadable s.row.sources → length rows.strings < string_limit
    → plan_step (reading Two n rows) (string_record s) ≡ reading Two (n + 1) (record rows { strings = rows.strings ++ s ∷ [] })
unfolding plan_step plan_of_fields string_of_fields distinct_of
string_step n rows s number ends faces sources room =
    rw (
      number_again s.row.number number.some (omega (arith, number.within)),
      number_again s.row.from ends.0.some (omega (arith, ends.0.within)),
      number_again s.row.to ends.1.some (omega (arith, ends.1.within)),
      face_again s.left faces.0,
      face_again s.right faces.1,
      list_again s.row.sources sources.numbers,
      sources.once,
      at_most (length s.row.sources) source_limit sources.few,
      less (length rows.strings) string_limit room,
    ) refl

retired_step : (n : ℕ) (rows : Rows) (k : ℕ) → IsNumber k → length rows.retired < row_limit
    → plan_step (reading Two n rows) (retired_record k) ≡ reading Two (n + 1) (record rows { retired = rows.retired ++ k ∷ [] })
unfolding plan_step plan_of_fields
retired_step n rows k number room = rw (number_again k number.some (omega (arith, number.within)), less (length rows.retired) row_limit room) refl

-- ---- All the records of a kind

-- rows of a kind, each of which is put last by its record
module _ {R : Type 0} (record_of : R → Record) (kept : Rows → List R) (put : Rows → List R → Rows) (limit : ℕ) (P : R → Type 0)
    (kept_put : (rows : Rows) (rs : List R) → kept (put rows rs) ≡ rs)
    (twice : (rows : Rows) (rs qs : List R) → put (put rows rs) qs ≡ put rows qs)
    (same : (rows : Rows) → put rows (kept rows) ≡ rows)
    (step : (n : ℕ) (rows : Rows) (r : R) → P r → length (kept rows) < limit → plan_step (reading Two n rows) (record_of r) ≡ reading Two (n + 1) (put rows (kept rows ++ r ∷ []))) where
  records_fold : (n : ℕ) (rows : Rows) (rs : List R) → AllByRecursion P rs → length (kept rows) + length rs ≤ limit
      → fold plan_step (reading Two n rows) (map record_of rs) ≡ reading Two (n + length rs) (put rows (kept rows ++ rs))
  records_fold n rows [] all room = let e : n + 0 ≡ n = omega arith in rw (append-nil (kept rows), same rows, e) refl
  records_fold n rows (r ∷ rs) all room =
      let next = put rows (kept rows ++ r ∷ []) in
      let now : kept next ≡ kept rows ++ r ∷ [] = kept_put rows (kept rows ++ r ∷ []) in
      ap (λ p. fold plan_step p (map record_of rs)) (step n rows r all.0 (omega arith))
      ∙ records_fold (n + 1) next rs all.1 (let e = ap (λ (l : List R). length l) now in let k = length-append (kept rows) (r ∷ []) in omega (arith, e, k))
      ∙ (let counted : n + 1 + length rs ≡ n + length (r ∷ rs) = omega arith in rw (counted, twice rows (kept rows ++ r ∷ []) (kept next ++ rs), now, append_assoc (kept rows) (r ∷ []) rs) refl)

first_is : plan_step beginning first_record ≡ reading Two 1 no_rows
unfolding plan_step version_of
first_is = refl

open_is : (n : ℕ) (rows : Rows) → plan_step (reading Two n rows) open_record ≡ opened rows
unfolding plan_step plan_of_fields
open_is n rows = refl

-- ---- The rows of a valid map

-- a point's row as a valid map has it
record IsReadablePoint (p : PointRow) : Type 0 where
  number : IsNumber p.number
  position : OnTheMap p.position
  sources : AreReadable p.sources

record IsReadableParcel (p : ParcelRow) : Type 0 where
  number : IsNumber p.number
  label : IsLabel p.label
  sources : AreReadable p.sources

record IsReadableString (s : PlanString) : Type 0 where
  number : IsNumber s.row.number
  ends : IsNumber s.row.from × IsNumber s.row.to
  faces : IsFace s.left × IsFace s.right
  sources : AreReadable s.row.sources

record IsReadableSource (s : SourceRow) : Type 0 where
  number : IsNumber s.number
  text : IsLabel s.text

module _ (m : Map) (v : HasSoundRows m) where
  sources-readable : (ss : List SourceRow) → AllByRecursion IsNumber (map (λ r. r.number) ss) → AllByRecursion (λ r. IsLabel r.text) ss → AllByRecursion IsReadableSource ss
  sources-readable [] numbers texts = tt
  sources-readable (s ∷ ss) numbers texts = (record { number = numbers.0; text = texts.0 }, sources-readable ss numbers.1 texts.1)

  points-readable : (ps : List PointRow) → AllByRecursion IsNumber (map (λ r. r.number) ps) → AllByRecursion (λ r. OnTheMap r.position) ps → AllByRecursion (λ r. AreSources m.sources r.sources) ps → AllByRecursion IsReadablePoint ps
  points-readable [] numbers positions named = tt
  points-readable (p ∷ ps) numbers positions named = (
    record { number = numbers.0; position = positions.0; sources = readable m.sources p.sources v.sources.in_range named.0 },
    points-readable ps numbers.1 positions.1 named.1,
  )

  parcels-readable : (ps : List ParcelRow) → AllByRecursion IsNumber (map (λ r. r.number) ps) → AllByRecursion (λ r. IsLabel r.label) ps → AllByRecursion (λ r. AreSources m.sources r.sources) ps → AllByRecursion IsReadableParcel ps
  parcels-readable [] numbers labels named = tt
  parcels-readable (p ∷ ps) numbers labels named = (
    record { number = numbers.0; label = labels.0; sources = readable m.sources p.sources v.sources.in_range named.0 },
    parcels-readable ps numbers.1 labels.1 named.1,
  )

  -- the face of a side is one of the map
  pub face-known : (s : Side) → IsTrue (has_face m (unwrap_or (face_at m s) Outside))
  face-known s = go m.boundaries v.faces_of_rings
    where
      go : (bs : List Boundary) → AllByRecursion (λ b. IsTrue (has_face m b.face)) bs → IsTrue (has_face m (unwrap_or (option_map (λ b. b.face) (find (λ b. has_side s (sides_of b.ring)) bs)) Outside))
      go [] all = refl
      go (b ∷ bs) all = elim (cases_Bool (has_side s (sides_of b.ring))) [ inl here ↦ rw here all.0 | inr other ↦ rw other (go bs all.1) ]

  face-in_range : (f : Face) → IsTrue (has_face m f) → IsFace f
  face-in_range Outside known n is = cc
  face-in_range (Parcel k) known n is =
      let same : k ≡ n = cc in
      rw same at (found-number (λ (r : ParcelRow). r.number) m.parcels k v.parcels.in_range known)

  strings-readable : (ss : List StringRow) → AllByRecursion IsNumber (map (λ r. r.number) ss) → AllByRecursion (λ s. IsTrue (has_point m s.from) × IsTrue (has_point m s.to)) ss
      → AllByRecursion (λ r. AreSources m.sources r.sources) ss → AllByRecursion IsReadableString (map (plan_string_of m) ss)
  strings-readable [] numbers ends named = tt
  strings-readable (s ∷ ss) numbers ends named = (
    record {
      number = numbers.0;
      ends = (found-number (λ (r : PointRow). r.number) m.points s.from v.points.in_range ends.0.0, found-number (λ (r : PointRow). r.number) m.points s.to v.points.in_range ends.0.1);
      faces = (face-in_range (plan_string_of m s).left (face-known (side_of s)), face-in_range (plan_string_of m s).right (face-known (opposite (side_of s))));
      sources = readable m.sources s.sources v.sources.in_range named.0;
    },
    strings-readable ss numbers.1 ends.1 named.1,
  )

-- ---- All the records

-- so many rows of each kind, one kind after another
abbrev up_to_sources : Map → Rows
up_to_sources m = record no_rows { sources = m.sources }

abbrev up_to_points : Map → Rows
up_to_points m = record (up_to_sources m) { points = m.points }

abbrev up_to_parcels : Map → Rows
up_to_parcels m = record (up_to_points m) { parcels = m.parcels }

abbrev up_to_strings : Map → Rows
up_to_strings m = record (up_to_parcels m) { strings = map (plan_string_of m) m.strings }

-- a kind's records after others
kind_next : (p q : Plan) (records rest : List Record) → fold plan_step p records ≡ q → fold plan_step p (records ++ rest) ≡ fold plan_step q rest
kind_next p q records rest h = fold-append plan_step p records rest ∙ ap (λ r. fold plan_step r rest) h

module _ (m : Map) (v : HasSoundRows m) where
  all_sources : fold plan_step (reading Two 1 no_rows) (map source_record m.sources) ≡ reading Two (1 + length m.sources) (up_to_sources m)
  all_sources =
      records_fold source_record (λ rows. rows.sources) (λ rows rs. record rows { sources = rs }) row_limit IsReadableSource (λ rows rs. refl) (λ rows rs qs. refl) (λ rows. refl)
      (λ n rows s h room. source_step n rows s h.number h.text room)
      1 no_rows m.sources (sources-readable m v m.sources v.sources.in_range v.texts) (let few = v.few_sources in omega arith)

  all_points : (n : ℕ) → fold plan_step (reading Two n (up_to_sources m)) (map point_record m.points) ≡ reading Two (n + length m.points) (up_to_points m)
  all_points n =
      records_fold point_record (λ rows. rows.points) (λ rows rs. record rows { points = rs }) row_limit IsReadablePoint (λ rows rs. refl) (λ rows rs qs. refl) (λ rows. refl)
      (λ n rows p h room. point_step n rows p h.number h.position h.sources room)
      n (up_to_sources m) m.points (points-readable m v m.points v.points.in_range v.positions v.point_sources) (let few = v.few_points in omega arith)

  all_parcels : (n : ℕ) → fold plan_step (reading Two n (up_to_points m)) (map parcel_record m.parcels) ≡ reading Two (n + length m.parcels) (up_to_parcels m)
  all_parcels n =
      records_fold parcel_record (λ rows. rows.parcels) (λ rows rs. record rows { parcels = rs }) row_limit IsReadableParcel (λ rows rs. refl) (λ rows rs qs. refl) (λ rows. refl)
      (λ n rows p h room. parcel_step n rows p h.number h.label h.sources room)
      n (up_to_points m) m.parcels (parcels-readable m v m.parcels v.parcels.in_range v.labels v.parcel_sources) (let few = v.few_parcels in omega arith)

  all_strings : (n : ℕ) → fold plan_step (reading Two n (up_to_parcels m)) (map string_record (map (plan_string_of m) m.strings)) ≡ reading Two (n + length (map (plan_string_of m) m.strings)) (up_to_strings m)
  all_strings n =
      records_fold string_record (λ rows. rows.strings) (λ rows rs. record rows { strings = rs }) string_limit IsReadableString (λ rows rs. refl) (λ rows rs qs. refl) (λ rows. refl)
      (λ n rows s h room. string_step n rows s h.number h.ends h.faces h.sources room)
      n (up_to_parcels m) (map (plan_string_of m) m.strings) (strings-readable m v m.strings v.strings.in_range v.ends v.string_sources)
      (let few = v.few_strings in simp length-map (omega arith))

  all_retired : (n : ℕ) → fold plan_step (reading Two n (up_to_strings m)) (map retired_record m.retired) ≡ reading Two (n + length m.retired) (rows_of m)
  all_retired n =
      records_fold retired_record (λ rows. rows.retired) (λ rows rs. record rows { retired = rs }) row_limit IsNumber (λ rows rs. refl) (λ rows rs qs. refl) (λ rows. refl)
      (λ n rows k h room. retired_step n rows k h room)
      n (up_to_strings m) m.retired v.retired.in_range (let few = v.few_retired in omega arith)

pub plan_again : (m : Map) → IsValid m → plan_of (plan_records m) ≡ opened (rows_of m)
plan_again m valid =
    let v = valid.sound.v1 in
    let strings = map string_record (map (plan_string_of m) m.strings) in
    let last = map retired_record m.retired ++ open_record ∷ [] in
    ap (λ p. fold plan_step p (map source_record m.sources ++ (map point_record m.points ++ (map parcel_record m.parcels ++ (strings ++ last))))) first_is
    ∙ kind_next _ _ (map source_record m.sources) (map point_record m.points ++ (map parcel_record m.parcels ++ (strings ++ last))) (all_sources m v)
    ∙ kind_next _ _ (map point_record m.points) (map parcel_record m.parcels ++ (strings ++ last)) (all_points m v _)
    ∙ kind_next _ _ (map parcel_record m.parcels) (strings ++ last) (all_parcels m v _)
    ∙ kind_next _ _ strings last (all_strings m v _)
    ∙ kind_next _ _ (map retired_record m.retired) (open_record ∷ []) (all_retired m v _)
    ∙ open_is _ _

-- ---- The text of the records

-- a record that has a field is read back as it is
written : (rows : List Record) → AllByRecursion (λ r. read_back r ≡ r) rows → Reached default_config st.StartRecord (text_of rows) rows st.StartRecord []
unfolding Reached record_text
written [] all = (refl, refl)
written (r ∷ rows) all = ((read_back r, st.StartRecord, text_of rows), read-write r (text_of rows), sym all.0, written rows all.1)

whole : (rows : List Record) → AllByRecursion (λ r. read_back r ≡ r) rows → IsWhole (text_of rows) rows
unfolding next_record
whole rows all = (st.StartRecord, [], written rows all, refl)

both-all : {X : Type 0} (P : X → Type 0) (xs ys : List X) → AllByRecursion P xs → AllByRecursion P ys → AllByRecursion P (xs ++ ys)
both-all P [] ys a b = b
both-all P (x ∷ xs) ys a b = (a.0, both-all P xs ys a.1 b)

-- so is each of a kind, if one is
each-again : {X : Type 0} (f : X → Record) → ((x : X) → read_back (f x) ≡ f x) → (xs : List X) → AllByRecursion (λ r. read_back r ≡ r) (map f xs)
each-again f one [] = tt
each-again f one (x ∷ xs) = (one x, each-again f one xs)

pub plan_text_again : (m : Map) → IsWhole (text_of (plan_records m)) (plan_records m)
plan_text_again m =
    let P : Record → Type 0 = λ r. read_back r ≡ r in
    let strings = map (plan_string_of m) m.strings in
    whole (plan_records m) (
      refl,
      both-all P (map source_record m.sources) _ (each-again source_record (λ _. refl) m.sources)
          (both-all P (map point_record m.points) _ (each-again point_record (λ _. refl) m.points)
          (both-all P (map parcel_record m.parcels) _ (each-again parcel_record (λ _. refl) m.parcels)
          (both-all P (map string_record strings) _ (each-again string_record (λ _. refl) strings) (both-all P (map retired_record m.retired) (open_record ∷ []) (each-again retired_record (λ _. refl) m.retired) (refl, tt))))),
    )
