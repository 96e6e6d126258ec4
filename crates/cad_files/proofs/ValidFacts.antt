-- Rows without a fault are the rows of a sound map.
use Rattle.std.proofs.Common.{◌≡◌, ◌≢◌, ◌≤◌, ◌∙◌, sym, ap, refl, subst, ℕ, ◌==◌, List, [], ◌∷◌, ◌++◌, length, map, Bool, true, false, Some, None, inl, inr, ◌||◌, is_some, true≢false}
use Rattle.std.specs.Prelude.{find, IsTrue}
use Rattle.std.specs.List.{list_any, AllByRecursion}
use Rattle.std.proofs.lemmas.Bool.{cases_Bool, eqb-false, eq-eqb, or_parts}
use Rattle.std.proofs.lemmas.List.Elements.{recursion_from_All}
use Rattle.std.proofs.lemmas.List.Folds.{list_any-append}
use Rattle.std.proofs.lemmas.List.{length-map}
use Rattle.cad_rows.specs.Limits.{IsNumber, IsLabel, string_limit}
use Rattle.cad_rows.specs.declared.names.Face.{Face}
use Rattle.cad_rows.specs.declared.names.Face.TheVariants.{Outside, Parcel}
use Rattle.cad_rows.specs.declared.names.Name.{Name}
use Rattle.cad_rows.specs.declared.rows.PointRow.{PointRow}
use Rattle.cad_rows.specs.declared.rows.ParcelRow.{ParcelRow}
use Rattle.geo_exact.specs.Position.{OnTheMap}
use Rattle.cad_map.specs.declared.boundary.Boundary.{Boundary}
use Rattle.cad_map.specs.Boundaries.{is_face, canonical_order}
use Rattle.cad_map.specs.Map.{Map, has_source, has_point, has_face}
use Rattle.cad_map.specs.Refusals.{is_there}
use Rattle.cad_map.specs.Valid.{EachPair, AreNumbers, AreSources, HasSoundRows, HasTwoEnds}
use Rattle.numbered_rows.specs.Rows.{row_with}
use Rattle.cad_map.proofs.CallerLemmas.{All-follows, All-map, All-append, All-flat_map}
use Rattle.cad_files.specs.Fields.{repeated}
use Rattle.cad_files.specs.Rows.{Rows, AreInRange, IsSourceList, IsSourceRow, IsPointRow, IsParcelRow, IsPlanString}
use Rattle.cad_files.specs.Building.{map_of, first_fault, twice_numbered, unknown_name, missing_name, sources_named, names_of_face, string_names, points_name, parcels_name, strings_name, is_dangling, dangling, bad_corner, other_label}
use Rattle.cad_files.specs.Kinds.{numbers_of, taken_before, name_of, taken_of}
use Rattle.cad_files.specs.declared.kinds.Kind.{Kind}
use Rattle.cad_files.specs.declared.kinds.Kind.TheVariants.{Sources, Points, Parcels, Strings, Retired}
use Rattle.cad_files.specs.declared.rows.PlanString.{PlanString}
use Rattle.cad_files.specs.declared.faults.PlanFault.TheVariants as faults
use Rattle.cad_files.proofs.FaultFacts.{none-parts, map-none}
use Rattle.cad_files.proofs.RowFacts.{is_some-row_with}

-- ---- No fault

pub record IsFaultless (rows : Rows) : Type 0 where
  pub unrepeated : (kind : Kind) → repeated (taken_before rows kind) (numbers_of rows kind) ≡ None
  pub points_name : missing_name (map_of rows) (points_name rows.points) ≡ None
  pub parcels_name : missing_name (map_of rows) (parcels_name rows.parcels) ≡ None
  pub strings_name : missing_name (map_of rows) (strings_name rows.strings) ≡ None
  pub dangling : dangling (map_of rows) rows.strings ≡ None
  pub corner : bad_corner (map_of rows) rows.strings ≡ None
  pub label : other_label (map_of rows) rows.strings ≡ None

untaken : (rows : Rows) → twice_numbered rows ≡ None → (kind : Kind) → taken_of rows kind ≡ None
untaken rows none kind =
    let sources = none-parts _ _ none in
    let points = none-parts _ _ sources.1 in
    let parcels = none-parts _ _ points.1 in
    let strings = none-parts _ _ parcels.1 in
    let retired = none-parts _ _ strings.1 in
    elim kind as (λ kind. taken_of rows kind ≡ None) [
      | Sources ↦ sources.0
      | Points ↦ points.0
      | Parcels ↦ parcels.0
      | Strings ↦ strings.0
      | Retired ↦ retired.0
    ]

unrepeated : (rows : Rows) (kind : Kind) → taken_of rows kind ≡ None → repeated (taken_before rows kind) (numbers_of rows kind) ≡ None
unfolding taken_of
unrepeated rows kind none = map-none (λ n. name_of kind n) _ none

pub faultless : (rows : Rows) → first_fault rows ≡ None → IsFaultless rows
faultless rows none =
    let a = none-parts _ _ none in
    let b = none-parts _ _ a.1 in
    let d = none-parts _ _ b.1 in
    let e = none-parts _ _ d.1 in
    let l = none-parts _ _ e.1 in
    let u1 = none-parts _ _ (map-none (λ n. faults.Unknown n) (unknown_name rows) b.0) in
    let u2 = none-parts _ _ u1.1 in
    let u3 = none-parts _ _ u2.1 in
    record {
      unrepeated = λ kind. unrepeated rows kind (untaken rows (map-none (λ n. faults.Taken n) (twice_numbered rows) a.0) kind);
      points_name = u1.0;
      parcels_name = u2.0;
      strings_name = u3.0;
      dangling = map-none (λ n. faults.Dangling n) _ d.0;
      corner = map-none (λ n. faults.Corner n) _ e.0;
      label = map-none (λ n. faults.Labels n) _ l.0;
    }

-- ---- No number stands twice

new-push : (before : List ℕ) (m : ℕ) (ns : List ℕ) → AllByRecursion (λ n. list_any (λ k. k == n) (before ++ m ∷ []) ≡ false) ns
    → AllByRecursion (λ n. list_any (λ k. k == n) before ≡ false) ns × AllByRecursion (λ n. m ≢ n) ns
new-push before m [] all = (tt, tt)
new-push before m (n ∷ ns) all =
    let here = or_parts _ _ (sym (list_any-append (λ k. k == n) before (m ∷ [])) ∙ all.0) in
    let other = or_parts _ _ here.1 in
    let rest = new-push before m ns all.1 in
    ((here.0, rest.0), (eqb-false m n other.0, rest.1))

distinct-from : (before ns : List ℕ) → repeated before ns ≡ None → EachPair (λ a b. a ≢ b) ns × AllByRecursion (λ n. list_any (λ k. k == n) before ≡ false) ns
distinct-from before [] none = (tt, tt)
distinct-from before (n ∷ ns) none = elim (cases_Bool (list_any (λ k. k == n) before)) [
  | inl there ↦ absurd (let bad : Some n ≡ None = rw there at none in cc)
  | inr new ↦
      let rest = distinct-from (before ++ n ∷ []) ns (rw new at none) in
      let parts = new-push before n ns rest.1 in
      ((parts.1, rest.0), (new, parts.0))
]

pub distinct : (ns : List ℕ) → repeated [] ns ≡ None → EachPair (λ a b. a ≢ b) ns
distinct ns none = (distinct-from [] ns none).0

module _ {R : Type 0} (P : R → Type 0) (number : R → ℕ) (in_range : (r : R) → P r → IsNumber (number r)) where
  numbers : (rows : List R) → AllByRecursion P rows → repeated [] (map number rows) ≡ None → AreNumbers (map number rows)
  numbers rows all none = record {
    in_range = All-map IsNumber number rows (All-follows P (λ r. IsNumber (number r)) in_range rows all);
    distinct = distinct _ none;
  }

rows-numbers : (strings : List PlanString) → map (λ s. s.row.number) strings ≡ map (λ r. r.number) (map (λ s. s.row) strings)
rows-numbers [] = refl
rows-numbers (s ∷ strings) = ap (λ (ns : List ℕ). s.row.number ∷ ns) (rows-numbers strings)

retired_numbers : (parcels : List ParcelRow) (ns : List ℕ) → repeated (map (λ r. r.number) parcels) ns ≡ None → EachPair (λ a b. a ≢ b) ns × AllByRecursion (λ n. is_some (row_with (λ r. r.number) n parcels) ≡ false) ns
retired_numbers parcels ns none =
    let both = distinct-from (map (λ r. r.number) parcels) ns none in
    (both.0, All-follows _ (λ n. is_some (row_with (λ r. r.number) n parcels) ≡ false) (λ n new. is_some-row_with (λ r. r.number) n parcels ∙ new) ns both.1)

-- ---- Each row that is named is there

there-each : (m : Map) (names : List Name) → missing_name m names ≡ None → AllByRecursion (λ n. IsTrue (is_there m n)) names
there-each m [] none = tt
there-each m (n ∷ names) none = elim (cases_Bool (is_there m n)) [
  | inl there ↦ (there, there-each m names (rw there at none))
  | inr gone ↦ absurd (let bad : Some n ≡ None = rw gone at none in cc)
]

module _ (m : Map) where
  known : (sources : List ℕ) → AllByRecursion (λ n. IsTrue (is_there m n)) (sources_named sources) → AllByRecursion (λ s. IsTrue (has_source m s)) sources
  known [] all = tt
  known (s ∷ sources) all = (all.0, known sources all.1)

  are_sources : (sources : List ℕ) → IsSourceList sources → AllByRecursion (λ n. IsTrue (is_there m n)) (sources_named sources) → AreSources m.sources sources
  are_sources sources list all = record { known = known sources all; distinct = distinct sources list.once; few = list.few }

  each-sources : {R : Type 0} (sources : R → List ℕ) (rows : List R) → AllByRecursion (λ r. IsSourceList (sources r)) rows → AllByRecursion (λ r. AllByRecursion (λ n. IsTrue (is_there m n)) (sources_named (sources r))) rows
      → AllByRecursion (λ r. AreSources m.sources (sources r)) rows
  each-sources sources [] lists all = tt
  each-sources sources (r ∷ rows) lists all = (are_sources (sources r) lists.0 all.0, each-sources sources rows lists.1 all.1)

  point_sources : (rows : List PointRow) → AllByRecursion IsPointRow rows → missing_name m (points_name rows) ≡ None → AllByRecursion (λ r. AreSources m.sources r.sources) rows
  unfolding points_name
  point_sources rows all none =
      each-sources (λ r. r.sources) rows (All-follows IsPointRow (λ r. IsSourceList r.sources) (λ r h. h.sources) rows all)
      (All-flat_map (λ n. IsTrue (is_there m n)) (λ (r : PointRow). sources_named r.sources) rows (there-each m _ none))

  parcel_sources : (rows : List ParcelRow) → AllByRecursion IsParcelRow rows → missing_name m (parcels_name rows) ≡ None → AllByRecursion (λ r. AreSources m.sources r.sources) rows
  unfolding parcels_name
  parcel_sources rows all none =
      each-sources (λ r. r.sources) rows (All-follows IsParcelRow (λ r. IsSourceList r.sources) (λ r h. h.sources) rows all)
      (All-flat_map (λ n. IsTrue (is_there m n)) (λ (r : ParcelRow). sources_named r.sources) rows (there-each m _ none))

  face-known : (f : Face) → AllByRecursion (λ n. IsTrue (is_there m n)) (names_of_face f) → IsTrue (has_face m f)
  face-known Outside all = refl
  face-known (Parcel n) all = all.0

  -- what a string names is there
  pub record IsKnown (s : PlanString) : Type 0 where
    pub ends : IsTrue (has_point m s.row.from) × IsTrue (has_point m s.row.to)
    pub faces : IsTrue (has_face m s.left) × IsTrue (has_face m s.right)
    pub sources : AllByRecursion (λ n. IsTrue (is_there m n)) (sources_named s.row.sources)

  is_known : (s : PlanString) → AllByRecursion (λ n. IsTrue (is_there m n)) (string_names s) → IsKnown s
  is_known s all =
      let left = All-append (λ n. IsTrue (is_there m n)) (names_of_face s.left) _ all.1.1 in
      let right = All-append (λ n. IsTrue (is_there m n)) (names_of_face s.right) _ left.1 in
      record { ends = (all.0, all.1.0); faces = (face-known s.left left.0, face-known s.right right.0); sources = right.1 }

  strings-known : (strings : List PlanString) → missing_name m (strings_name strings) ≡ None → AllByRecursion IsKnown strings
  unfolding strings_name
  strings-known strings none =
      All-follows (λ s. AllByRecursion (λ n. IsTrue (is_there m n)) (string_names s)) IsKnown is_known strings (All-flat_map (λ n. IsTrue (is_there m n)) string_names strings (there-each m _ none))

-- ---- Strings lead from one point to another, and have two faces

is_face-same : (f : Face) → is_face f f ≡ true
is_face-same Outside = refl
is_face-same (Parcel n) = eq-eqb n n refl

first-parts : (a b c d : Bool) → (a || b || c || d) ≡ false → (a ≡ false) × (b ≡ false)
first-parts false false c d good = (refl, refl)
first-parts true b c d good = cc good
first-parts false true c d good = cc good

stretched-each : (m : Map) (strings : List PlanString) → find (is_dangling m) strings ≡ None → AllByRecursion (λ s. (s.row.from ≢ s.row.to) × (s.left ≢ s.right)) strings
stretched-each m [] none = tt
stretched-each m (s ∷ strings) none = elim (cases_Bool (is_dangling m s)) [
  | inl bad ↦ absurd (let some : Some s ≡ None = rw bad at none in cc)
  | inr good ↦ (parts good, stretched-each m strings (rw good at none))
]
  where
    parts : is_dangling m s ≡ false → (s.row.from ≢ s.row.to) × (s.left ≢ s.right)
    parts good =
        let a = first-parts (s.row.from == s.row.to) (is_face s.left s.right) _ _ good in
        (eqb-false s.row.from s.row.to a.0, (λ same. true≢false (sym (is_face-same s.left) ∙ ap (is_face s.left) same ∙ a.1)))

stretched : (m : Map) (strings : List PlanString) → dangling m strings ≡ None → AllByRecursion (λ s. (s.row.from ≢ s.row.to) × (s.left ≢ s.right)) strings
unfolding dangling
stretched m strings none = stretched-each m strings (map-none (λ s. s.row.number) _ none)

-- ---- What the rules ask of rows

-- the map of the rows with these rings
abbrev pub with_rings : Rows → List Boundary → Map
with_rings rows bs = record (map_of rows) { boundaries = bs }

module _ (rows : Rows) (range : AreInRange rows) (none : first_fault rows ≡ None) where
  -- each string's points are there and are two, and its faces are there and are two
  pub ends-known : AllByRecursion (λ s. IsTrue (has_point (map_of rows) s.row.from) × IsTrue (has_point (map_of rows) s.row.to)) rows.strings
  ends-known = All-follows (IsKnown (map_of rows)) (λ s. IsTrue (has_point (map_of rows) s.row.from) × IsTrue (has_point (map_of rows) s.row.to)) (λ s h. h.ends) rows.strings (strings-known (map_of rows) rows.strings (faultless rows none).strings_name)

  pub row-ends-known : AllByRecursion (λ s. IsTrue (has_point (map_of rows) s.from) × IsTrue (has_point (map_of rows) s.to)) (map (λ s. s.row) rows.strings)
  row-ends-known = All-map (λ s. IsTrue (has_point (map_of rows) s.from) × IsTrue (has_point (map_of rows) s.to)) (λ s. s.row) rows.strings ends-known

  pub faces-known : AllByRecursion (λ s. IsTrue (has_face (map_of rows) s.left) × IsTrue (has_face (map_of rows) s.right)) rows.strings
  faces-known = All-follows (IsKnown (map_of rows)) (λ s. IsTrue (has_face (map_of rows) s.left) × IsTrue (has_face (map_of rows) s.right)) (λ s h. h.faces) rows.strings (strings-known (map_of rows) rows.strings (faultless rows none).strings_name)

  pub ends-differ : AllByRecursion (λ s. s.row.from ≢ s.row.to) rows.strings
  ends-differ = All-follows (λ s. (s.row.from ≢ s.row.to) × (s.left ≢ s.right)) (λ s. s.row.from ≢ s.row.to) (λ s h. h.0) rows.strings (stretched (map_of rows) rows.strings (faultless rows none).dangling)

  pub faces-differ : AllByRecursion (λ s. s.left ≢ s.right) rows.strings
  faces-differ = All-follows (λ s. (s.row.from ≢ s.row.to) × (s.left ≢ s.right)) (λ s. s.left ≢ s.right) (λ s h. h.1) rows.strings (stretched (map_of rows) rows.strings (faultless rows none).dangling)

  pub two_ends : (bs : List Boundary) → HasTwoEnds (with_rings rows bs)
  two_ends bs = All-map (λ s. s.from ≢ s.to) (λ s. s.row) rows.strings ends-differ

  pub sound_rows : (bs : List Boundary) → AllByRecursion (λ b. AllByRecursion (λ p. IsTrue (has_point (map_of rows) p)) b.ring) bs → AllByRecursion (λ b. IsTrue (has_face (map_of rows) b.face)) bs → canonical_order bs ≡ bs
      → HasSoundRows (with_rings rows bs)
  sound_rows bs points_of_rings faces_of_rings canonical =
      let free = faultless rows none in
      let m = map_of rows in
      let sources = recursion_from_All IsSourceRow rows.sources range.sources in
      let points = recursion_from_All IsPointRow rows.points range.points in
      let parcels = recursion_from_All IsParcelRow rows.parcels range.parcels in
      let strings = recursion_from_All IsPlanString rows.strings range.strings in
      let retired = retired_numbers rows.parcels rows.retired (free.unrepeated Retired) in
      record {
        sources = numbers IsSourceRow (λ r. r.number) (λ r h. h.number) rows.sources sources (free.unrepeated Sources);
        points = numbers IsPointRow (λ r. r.number) (λ r h. h.number) rows.points points (free.unrepeated Points);
        parcels = numbers IsParcelRow (λ r. r.number) (λ r h. h.number) rows.parcels parcels (free.unrepeated Parcels);
        strings = subst (λ (ns : List ℕ). AreNumbers ns) (rows-numbers rows.strings) (numbers IsPlanString (λ s. s.row.number) (λ s h. h.number) rows.strings strings (free.unrepeated Strings));
        retired = record { in_range = recursion_from_All IsNumber rows.retired range.retired; distinct = retired.0 };
        retired_for_good = retired.1;
        texts = All-follows IsSourceRow (λ r. IsLabel r.text) (λ r h. h.text) rows.sources sources;
        labels = All-follows IsParcelRow (λ r. IsLabel r.label) (λ r h. h.label) rows.parcels parcels;
        positions = All-follows IsPointRow (λ r. OnTheMap r.position) (λ r h. h.position) rows.points points;
        ends = row-ends-known;
        points_of_rings = points_of_rings;
        faces_of_rings = faces_of_rings;
        point_sources = point_sources m rows.points points free.points_name;
        parcel_sources = parcel_sources m rows.parcels parcels free.parcels_name;
        string_sources = All-map (λ r. AreSources rows.sources r.sources) (λ s. s.row) rows.strings (string_sources strings);
        few_sources = range.few_sources;
        few_points = range.few_points;
        few_parcels = range.few_parcels;
        few_strings = few_rows;
        few_retired = range.few_retired;
        canonical = canonical;
      }
    where
      few_rows : length (map (λ s. s.row) rows.strings) ≤ string_limit
      few_rows = subst (λ (n : ℕ). n ≤ string_limit) (sym (length-map rows.strings (λ s. s.row))) range.few_strings

      string_sources : AllByRecursion IsPlanString rows.strings → AllByRecursion (λ s. AreSources rows.sources s.row.sources) rows.strings
      string_sources strings =
          each-sources (map_of rows) (λ s. s.row.sources) rows.strings (All-follows IsPlanString (λ s. IsSourceList s.row.sources) (λ s h. h.sources) rows.strings strings)
          (All-follows (IsKnown (map_of rows)) (λ s. AllByRecursion (λ n. IsTrue (is_there (map_of rows) n)) (sources_named s.row.sources)) (λ s h. h.sources) rows.strings (strings-known (map_of rows) rows.strings (faultless rows none).strings_name))
