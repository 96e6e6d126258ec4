-- How many rows each edit brings and takes, and the sources of those that it takes.
use Rattle.std.proofs.Common.{◌≡◌, ℕ, ℤ, ◌+◌, inl, inr, refl, sym, ap, subst, ◌∙◌, List, [], ◌∷◌, ◌++◌, length, map, filter, not, ◌==◌, Bool, true, false, Option, None, Some, is_some, arith}
use Rattle.std.proofs.lemmas.List.{length-map}
use Rattle.std.specs.Prelude.{option_map, unwrap_or}
use Rattle.std.specs.List.{AllByRecursion, Contains}
use Rattle.cad_rows.specs.declared.edits.Edit.{Edit}
use Rattle.cad_rows.specs.declared.edits.Edit.TheVariants.{AddSource, AddPoint, DropPoint, Split, Join, Divide, Merge, Move, Attach, Detach, Rename, Enclose}
use Rattle.cad_rows.specs.declared.names.Face.TheVariants.{Parcel}
use Rattle.cad_rows.specs.declared.names.Item.{Item}
use Rattle.cad_rows.specs.declared.names.Item.TheVariants as item
use Rattle.cad_rows.specs.declared.names.Name.TheVariants as name
use Rattle.cad_rows.specs.declared.rows.ParcelRow.{ParcelRow}
use Rattle.cad_rows.specs.declared.rows.PointRow.{PointRow}
use Rattle.cad_rows.specs.declared.rows.SourceRow.{SourceRow}
use Rattle.cad_rows.specs.declared.rows.StringRow.{StringRow}
use Rattle.cad_map.specs.declared.boundary.Boundary.{Boundary}
use Rattle.cad_map.specs.Asked.{GivesInRange}
use Rattle.cad_map.specs.Changes.{with_point, with_string, with_parcel, divide_at, change_point, change_parcel, change_string, change_sources, split, join, merge, by_number, string_joining, with_boundaries, with_new_parcel}
use Rattle.cad_map.specs.Chain.{start_of, next_of, end_of, last_but_one, strings_along, chosen_corner}
use Rattle.cad_map.specs.Division.{boundaries_enclosed}
use Rattle.cad_map.specs.Effects.{after}
use Rattle.cad_map.specs.Merger.{is_shared}
use Rattle.cad_map.specs.Map.{Map, point_of, parcel_of, string_of, strings_at, is_end, degree}
use Rattle.cad_map.specs.Refusals.{first_refusal, sources_at}
use Rattle.numbered_rows.specs.Rows.{row_with, without_row}
use Rattle.cad_map.specs.Valid.{IsValid}
use Rattle.cad_map.proofs.CallerLemmas.{allowed, free-point, free-source, free-split, free-join, two-joined, there-one, can-divide, can-enclose, can-merge, Contains-cases, Contains-map, found-number, All-Contains, numbers-strings_along, MeetAt, meet-at, length-push}
use Rattle.cad_laws.specs.Counts.{rows_by, sources_by, shared_strings, sources_of_strings}
use Rattle.cad_laws.proofs.ChangedRows.{if-changed}
use Rattle.cad_laws.proofs.CountedRows.{Turn, Turns, turns, turned, turned-put, turned-out, turned-same, turned-in_place, row-out, row-turned, filter-alike}
use Rattle.cad_laws.proofs.NamedParcels.{of-parcels}

-- a list of one
only : {X : Type 0} (P : X → Type 0) (y : X) → P y → (x : X) → Contains (y ∷ []) x → P x
only P y p x h = elim (Contains-cases y [] x h) [
  | inl same ↦ subst P same p
  | inr later ↦ let low = later.1 in absurd (omega arith)
]

module _ (m : Map) (v : IsValid m) where
  -- tables as they were
  same-points : Turn (λ r. r.number) m.points m.points [] []
  same-points = turned-same (λ r. r.number) m.points v.sound.v1.points.distinct m.points refl

  same-strings : Turn (λ r. r.number) m.strings m.strings [] []
  same-strings = turned-same (λ r. r.number) m.strings v.sound.v1.strings.distinct m.strings refl

  same-parcels : Turn (λ r. r.number) m.parcels m.parcels [] []
  same-parcels = turned-same (λ r. r.number) m.parcels v.sound.v1.parcels.distinct m.parcels refl

  same-sources : Turn (λ r. r.number) m.sources m.sources [] []
  same-sources = turned-same (λ r. r.number) m.sources v.sound.v1.sources.distinct m.sources refl

  -- ---- Rows that change in their places

  unturned : Turns m m 0 0
  unturned = turns m m [] [] [] [] [] [] [] [] same-points same-strings same-parcels same-sources

  abbrev Unturned : Map → Type 0
  Unturned new = Turns m new 0 0

  changed-point : (n : ℕ) (change : PointRow → PointRow) → Unturned (change_point n change m)
  changed-point n change = if-changed Unturned m (point_of m n) _ unturned (λ r is.
      turns m (with_point m (change r)) [] [] [] [] [] [] [] []
      (turned-in_place (λ r. r.number) m.points v.sound.v1.points.distinct (change r))
      same-strings same-parcels same-sources)

  changed-string : (n : ℕ) (change : StringRow → StringRow) → Unturned (change_string n change m)
  changed-string n change = if-changed Unturned m (string_of m n) _ unturned (λ r is.
      turns m (with_string m (change r)) [] [] [] [] [] [] [] [] same-points
      (turned-in_place (λ r. r.number) m.strings v.sound.v1.strings.distinct (change r))
      same-parcels same-sources)

  changed-parcel : (n : ℕ) (change : ParcelRow → ParcelRow) → Unturned (change_parcel n change m)
  changed-parcel n change = if-changed Unturned m (parcel_of m n) _ unturned (λ r is.
      turns m (with_parcel m (change r)) [] [] [] [] [] [] [] [] same-points same-strings
      (turned-in_place (λ r. r.number) m.parcels v.sound.v1.parcels.distinct (change r))
      same-sources)

  changed-sources : (i : Item) (change : List ℕ → List ℕ)
      → Turns m (change_sources i change m) 0 0
  changed-sources (item.Point n) change =
      changed-point n (λ r. record r { sources = change r.sources })
  changed-sources (item.String n) change =
      changed-string n (λ r. record r { sources = change r.sources })
  changed-sources (item.Parcel n) change =
      changed-parcel n (λ r. record r { sources = change r.sources })

  -- ---- One row comes or goes

  source-added : (s : ℕ) (text : List ℕ)
      → row_with (λ (r : SourceRow). r.number) s m.sources ≡ None
      → Turns m (record m { sources = m.sources ++ record { number = s; text = text } ∷ [] }) 1 0
  source-added s text new =
      let row : SourceRow = record { number = s; text = text } in
      turns m (record m { sources = m.sources ++ row ∷ [] }) [] [] [] [] [] [] [] (row ∷ [])
      same-points same-strings same-parcels
      (turned-put (λ r. r.number) m.sources v.sound.v1.sources.distinct (row ∷ [])
      (only (λ (r : SourceRow). row_with (λ (q : SourceRow). q.number) r.number m.sources ≡ None)
      row new))

  point-added : (row : PointRow) → point_of m row.number ≡ None
      → Turns m (record m { points = m.points ++ row ∷ [] }) 1 0
  point-added row new =
      turns m (record m { points = m.points ++ row ∷ [] }) [] (row ∷ []) [] [] [] [] [] []
      (turned-put (λ r. r.number) m.points v.sound.v1.points.distinct (row ∷ [])
      (only (λ (r : PointRow). point_of m r.number ≡ None) row new))
      same-strings same-parcels same-sources

  point-dropped : (p : ℕ) (row : PointRow) → point_of m p ≡ Some row
      → Turns m (record m { points = without_row (λ (r : PointRow). r.number) p m.points }) 1
      (length (sources_at m (item.Point p)))
  point-dropped p row is =
      let news = without_row (λ (r : PointRow). r.number) p m.points in
      let t = turns m (record m { points = news }) (row ∷ []) [] [] [] [] [] [] []
      (row-out (λ r. r.number) m.points v.sound.v1.points.distinct p row is)
      same-strings same-parcels same-sources in
      record {
        rows_are = t.rows_are;
        sources_are = rw is (omega (arith, t.sources_are));
      }

  -- ---- A string split, and two joined

  string-split : (s p : ℕ) (x y : ℤ) (first second : ℕ) (row : StringRow)
      → string_of m s ≡ Some row
      → point_of m p ≡ None → string_of m first ≡ None → string_of m second ≡ None
      → Turns m (split m row p x y first second) 4 (length (sources_at m (item.String s)))
  string-split s p x y first second row is free one two = record {
    rows_are = t.rows_are;
    sources_are = rw is (omega (arith, t.sources_are));
  }
    where
      point : PointRow
      point = record { number = p; position = record { x = x; y = y }; sources = [] }

      near : StringRow
      near = record { number = first; from = row.from; to = p; sources = row.sources }

      far : StringRow
      far = record { number = second; from = p; to = row.to; sources = row.sources }

      new : (r : StringRow) → Contains (near ∷ far ∷ []) r → string_of m r.number ≡ None
      new r h = elim (Contains-cases near (far ∷ []) r h) [
        | inl same ↦ subst (λ (q : StringRow). string_of m q.number ≡ None) same one
        | inr later ↦ only (λ (q : StringRow). string_of m q.number ≡ None) far two r later
      ]

      found : string_of m row.number ≡ Some row
      found = ap (string_of m) (found-number (λ (q : StringRow). q.number) s m.strings row is) ∙ is

      t : Turns m (split m row p x y first second) 4 (length row.sources)
      t =
          let t = turns m (split m row p x y first second) [] (point ∷ []) (row ∷ [])
          (near ∷ far ∷ []) [] [] [] []
          (turned-put (λ r. r.number) m.points v.sound.v1.points.distinct (point ∷ [])
          (only (λ (r : PointRow). point_of m r.number ≡ None) point free))
          (row-turned (λ r. r.number) m.strings v.sound.v1.strings.distinct row.number row
          (near ∷ far ∷ []) found new)
          same-parcels same-sources in
          record { rows_are = t.rows_are; sources_are = omega (arith, t.sources_are) }

  -- the rows that a test doesn't leave
  gone-by : {R : Type 0} (test : R → Bool) (rows : List R)
      → filter (λ r. not (not (test r))) rows ≡ filter test rows
  gone-by test rows = filter-alike (λ r. not (not (test r))) test rows (λ r h. twice (test r))
    where
      twice : (b : Bool) → not (not b) ≡ b
      twice true = refl
      twice false = refl

  strings-joined : (p new : ℕ) (row : PointRow) → point_of m p ≡ Some row → degree m p ≡ 2
      → string_of m new ≡ None
      → Turns m (join m p new) 4
      (length (sources_at m (item.Point p)) + sources_of_strings (strings_at m p))
  strings-joined p new row is two free = record {
    rows_are =
        let amount = t.rows_are in
        let count : length (string_joining p new (by_number (strings_at m p))) ≡ 1 =
        ap (λ (l : List StringRow). length (string_joining p new l)) meet.are in
        omega (arith, amount, two, count);
    sources_are = rw is (omega (arith, t.sources_are));
  }
    where
      meet : MeetAt m p
      meet = meet-at m p two

      more : List StringRow
      more = string_joining p new (by_number (strings_at m p))

      fresh : (r : StringRow) → Contains more r → string_of m r.number ≡ None
      fresh r h =
          only (λ (q : StringRow). string_of m q.number ≡ None) _ free r
          (subst (λ (l : List StringRow). Contains (string_joining p new l) r) meet.are h)

      t : Turns m (join m p new)
          ((length (row ∷ []) + length (strings_at m p)) + length more)
          (length row.sources + sources_of_strings (strings_at m p))
      t =
          let t = turns m (join m p new) (row ∷ []) [] (strings_at m p) more [] [] [] []
          (row-out (λ r. r.number) m.points v.sound.v1.points.distinct p row is)
          (subst (λ (l : List StringRow). Turn (λ r. r.number) m.strings
          (filter (λ s. not (is_end s p)) m.strings ++ more) l more)
          (gone-by (λ s. is_end s p) m.strings)
          (turned (λ r. r.number) m.strings v.sound.v1.strings.distinct
          (λ s. not (is_end s p)) more fresh))
          same-parcels same-sources in
          record {
            rows_are = omega (arith, t.rows_are);
            sources_are = omega (arith, t.sources_are);
          }

  -- ---- Parcels made and merged

  parcel-made : (bs : List Boundary) (chain strings : List ℕ) (parcel : ℕ) (label : List ℕ)
      (source : ℕ) → length strings + 1 ≡ length chain
      → AllByRecursion (λ s. string_of m s ≡ None) strings → parcel_of m parcel ≡ None
      → Turns m (with_boundaries bs (with_new_parcel
      (strings_along (source ∷ []) strings chain) parcel label source m))
      (length strings + 1) 0
  parcel-made bs chain strings parcel label source fits new free =
      let t = turns m (with_boundaries bs (with_new_parcel rows parcel label source m)) [] [] []
      rows [] (row ∷ []) [] [] same-points
      (turned-put (λ r. r.number) m.strings v.sound.v1.strings.distinct rows fresh)
      (turned-put (λ r. r.number) m.parcels v.sound.v1.parcels.distinct (row ∷ [])
      (only (λ (r : ParcelRow). parcel_of m r.number ≡ None) row free))
      same-sources in
      let count = sym (length-map rows (λ (r : StringRow). r.number)) ∙ ap length numbers in
      record { rows_are = omega (arith, t.rows_are, count); sources_are = t.sources_are }
    where
      rows : List StringRow
      rows = strings_along (source ∷ []) strings chain

      row : ParcelRow
      row = record { number = parcel; label = label; sources = source ∷ [] }

      numbers : map (λ (r : StringRow). r.number) rows ≡ strings
      numbers = numbers-strings_along (source ∷ []) strings chain fits

      fresh : (r : StringRow) → Contains rows r → string_of m r.number ≡ None
      fresh r h =
          All-Contains (λ s. string_of m s ≡ None) strings r.number new
          (subst (λ (l : List ℕ). Contains l r.number) numbers
          (Contains-map (λ (r : StringRow). r.number) rows r h))

  parcels-merged : (k n : ℕ) (row : ParcelRow) → parcel_of m n ≡ Some row
      → Turns m (merge m (Parcel k) (Parcel n))
      (length (shared_strings m (Parcel k) (Parcel n)) + 1)
      (sources_of_strings (shared_strings m (Parcel k) (Parcel n))
      + length (sources_at m (item.Parcel n)))
  parcels-merged k n row is =
      let t = turns m (merge m (Parcel k) (Parcel n)) [] []
      (shared_strings m (Parcel k) (Parcel n)) [] (row ∷ []) [] [] [] same-points
      (subst (λ (l : List StringRow). Turn (λ r. r.number) m.strings
      (filter (λ s. not (is_shared m (Parcel k) (Parcel n) s)) m.strings) l [])
      (gone-by (is_shared m (Parcel k) (Parcel n)) m.strings)
      (turned-out (λ r. r.number) m.strings v.sound.v1.strings.distinct
      (λ s. not (is_shared m (Parcel k) (Parcel n) s))))
      (row-out (λ r. r.number) m.parcels v.sound.v1.parcels.distinct n row is)
      same-sources in
      record {
        rows_are = omega (arith, t.rows_are);
        sources_are = rw is (omega (arith, t.sources_are));
      }

-- ---- Each edit

some-from : {X : Type 0} (o : Option X) → is_some o ≡ true → (x : X) × (o ≡ Some x)
some-from None h = cc
some-from (Some x) h = (x, refl)

pub counted : (m : Map) (e : Edit) → IsValid m → GivesInRange e → first_refusal m e ≡ None
    → Turns m (after m e) (rows_by m e) (sources_by m e)
unfolding after
counted m (AddSource s text) v given none =
    source-added m v s text (free-source m s text (allowed m (AddSource s text) none).taken)
counted m (AddPoint p x y) v given none =
    point-added m v (record { number = p; position = record { x = x; y = y }; sources = [] })
    (free-point m p x y (allowed m (AddPoint p x y) none).taken)
counted m (DropPoint p) v given none =
    let there = some-from (point_of m p)
    (there-one m (name.Point p) (allowed m (DropPoint p) none).unknown) in
    point-dropped m v p there.0 there.1
counted m (Split s p x y one two) v given none =
    let free = allowed m (Split s p x y one two) none in
    let there = some-from (string_of m s) (there-one m (name.String s) free.unknown) in
    let new = free-split m s p x y one two free.taken in
    subst (λ (o : Option StringRow). Turns m
    (unwrap_or (option_map (λ row. split m row p x y one two) o) m) 4
    (length (sources_at m (item.String s)))) (sym there.1)
    (string-split m v s p x y one two there.0 there.1 new.0 new.1 new.2)
counted m (Join p s) v given none =
    let free = allowed m (Join p s) none in
    let there = some-from (point_of m p) (there-one m (name.Point p) free.unknown) in
    strings-joined m v p s there.0 there.1 (two-joined m p s free.not_degree_two)
    (free-join m p s free.taken)
counted m (Divide face chain strings parcel label source) v given none =
    let can = can-divide m face chain strings parcel label source given
    (allowed m (Divide face chain strings parcel label source) none) in
    parcel-made m v
    (divide_at m face chain parcel (chosen_corner m face (start_of chain) (next_of chain))
    (chosen_corner m face (end_of chain) (last_but_one chain)))
    chain strings parcel label source can.as_many can.rows.strings_new can.rows.parcel_new
counted m (Merge k e) v given none =
    of-parcels m (λ k e. Turns m (merge m k e) (rows_by m (Merge k e)) (sources_by m (Merge k e)))
    (λ k e free.
    let there = some-from (parcel_of m e) (can-merge m k e free).ended_there in
    parcels-merged m v k e there.0 there.1) k e (allowed m (Merge k e) none)
counted m (Move p x y) v given none =
    changed-point m v p (λ row. record row { position = record { x = x; y = y } })
counted m (Attach i s) v given none = changed-sources m v i (λ sources. sources ++ s ∷ [])
counted m (Detach i s) v given none =
    changed-sources m v i (λ sources. filter (λ t. not (t == s)) sources)
counted m (Rename p label) v given none =
    changed-parcel m v p (λ row. record row { label = label })
counted m (Enclose face points strings parcel label source) v given none =
    let can = can-enclose m face points strings parcel label source given
    (allowed m (Enclose face points strings parcel label source) none) in
    let many = can.as_many in
    parcel-made m v (boundaries_enclosed m face (Parcel parcel) points)
    (points ++ start_of points ∷ []) strings parcel label source
    (let more = length-push points (start_of points) in omega (arith, more, many))
    can.rows.strings_new can.rows.parcel_new
