-- What an edit takes out of the grid of a map is what only the map before it has, and what it puts
-- in what only the map after it has.
use Rattle.std.proofs.Common.{◌≡◌, ◌≢◌, ℕ, ℤ, inl, inr, refl, sym, ap, subst, ◌∙◌, List, [], ◌∷◌, ◌++◌, ◌+◌, length, map, filter, not, ◌==◌, Bool, true, false, true≢false, Option, None, Some, is_some, arith}
use Rattle.std.proofs.lemmas.Bool.{eqb-true}
use Rattle.std.proofs.lemmas.Bool.Decides.{Decides-int_eq}
use Rattle.std.specs.Prelude.{IsTrue, if◌then◌else◌, option_map, unwrap_or}
use Rattle.std.specs.List.{AllByRecursion, Contains}
use Rattle.geo_exact.specs.Position.{Position}
use Rattle.cad_rows.specs.declared.edits.Edit.{Edit}
use Rattle.cad_rows.specs.declared.edits.Edit.TheVariants.{AddSource, AddPoint, DropPoint, Split, Join, Divide, Merge, Move, Attach, Detach, Rename, Enclose}
use Rattle.cad_rows.specs.declared.names.Face.{Face}
use Rattle.cad_rows.specs.declared.names.Face.TheVariants.{Parcel}
use Rattle.cad_rows.specs.declared.names.Item.{Item}
use Rattle.cad_rows.specs.declared.names.Item.TheVariants as item
use Rattle.cad_rows.specs.declared.names.Name.TheVariants as name
use Rattle.cad_rows.specs.declared.rows.ParcelRow.{ParcelRow}
use Rattle.cad_rows.specs.declared.rows.PointRow.{PointRow}
use Rattle.cad_rows.specs.declared.rows.StringRow.{StringRow}
use Rattle.cad_map.specs.Chain.{start_of, strings_along}
use Rattle.cad_map.specs.Changes.{with_point, change_point, change_string, change_parcel, change_sources, split, join, merge, by_number, string_joining}
use Rattle.cad_map.specs.Effects.{after}
use Rattle.cad_map.specs.Map.{Map, point_of, string_of, parcel_of, has_point, position_of, origin, is_end, strings_at}
use Rattle.cad_map.specs.Merger.{is_shared}
use Rattle.numbered_rows.specs.Rows.{row_with, with_row, without_row}
use Rattle.cad_map.specs.Valid.{IsValid, EachPair, is_same_position}
use Rattle.cad_map.proofs.CallerLemmas.{IsAllowed, allowed, not-when, there-one, two-joined, halves-differ, free-point, free-split, free-join, free-dropped, can-divide, can-enclose, names-parcels, MeetAt, meet-at, All-at_each, All-Contains, Contains-cases, Contains-map, filter-Contains, find-Contains, found-number, map-with_row-same, numbers-strings_along, pairs-from_distinct, length-push, ends, is_end-of, is_nothing, no_end}
use Rattle.cell_grid.specs.declared.entry.Entry.{Entry}
use Rattle.cell_grid.specs.Grid.{entry_of}
use Rattle.cell_grid.specs.Together.{Listed}
use Rattle.cad_laws.specs.Tried.{IsTried}
use Rattle.cad_laws.proofs.CallerLemmas.{if-changed, found-own, same-pushed, same-without, same-with_row, own-with_row, same-position, map-map, map-same}
use Rattle.edit_records.specs.Gridded.{string_entry, point_entry, string_entries, point_entries}
use Rattle.edit_records.specs.Exchanged.{IsExchange}
use Rattle.edit_records.specs.GridEdits.{gone_by, come_by}
use Rattle.edit_records.proofs.RowExchanges.{AreApart, one-row, AreBetween, none-between, turned, taken, put, moved}

-- the numbers of rows
abbrev pub of_point : PointRow → ℕ
of_point r = r.number

abbrev pub of_string : StringRow → ℕ
of_string r = r.number

-- where a row says that the point lies
abbrev pub placed : Option PointRow → Position
placed o = unwrap_or (option_map (λ r. r.position) o) origin

-- a list of one
only : {X : Type 0} (P : X → Type 0) (y : X) → P y → (x : X) → Contains (y ∷ []) x → P x
only P y p x h = elim (Contains-cases y [] x h) [
  | inl same ↦ subst P same p
  | inr later ↦ let low = later.1 in absurd (omega arith)
]

pub some-from : {X : Type 0} (o : Option X) → is_some o ≡ true → (x : X) × (o ≡ Some x)
some-from None h = cc
some-from (Some x) h = (x, refl)

abbrev nothing : Listed
nothing = record { strings = []; points = [] }

-- two positions that the test tells apart aren't one
told-apart : (a b : Position) → is_same_position a b ≡ false → ¬ (a ≡ b)
told-apart a b other same =
    let alike : is_same_position a a ≡ true = rw ((Decides-int_eq a.x a.x).1 refl, (Decides-int_eq a.y a.y).1 refl) refl in
    true≢false (sym alike ∙ ap (is_same_position a) same ∙ other)

module _ (m : Map) (v : IsValid m) where
  -- a string lies where it lay, if both its ends do
  laid : (new : Map) (s : StringRow) → position_of new s.from ≡ position_of m s.from → position_of new s.to ≡ position_of m s.to → string_entry new s ≡ string_entry m s
  laid new s from to = λ i. entry_of s.number (from i) (to i)

  -- and so does each of the map, if all points do that pass
  all-laid : (new : Map) (Ok : ℕ → Type 0) → ((q : ℕ) → IsTrue (has_point m q) → Ok q → position_of new q ≡ position_of m q)
      → (s : StringRow) → Contains m.strings s → Ok s.from × Ok s.to → string_entry new s ≡ string_entry m s
  all-laid new Ok at s h ok =
      let known = All-at_each (λ (r : StringRow). IsTrue (has_point m r.from) × IsTrue (has_point m r.to)) m.strings s v.sound.v1.ends h in
      laid new s (at s.from known.0 ok.0) (at s.to known.1 ok.1)

  module _ (new : Map) where
    exchange : (sg sc pg pc : List Entry) → AreBetween (string_entries m) (string_entries new) sg sc → AreBetween (point_entries m) (point_entries new) pg pc
        → IsExchange m (record { strings = sg; points = pg }) (record { strings = sc; points = pc }) new
    exchange sg sc pg pc strings points = record {
      strings_gone = strings.0;
      points_gone = points.0;
      strings_come = strings.1;
      points_come = points.1;
    }

    strings-stay : new.strings ≡ m.strings → ((s : StringRow) → Contains m.strings s → string_entry new s ≡ string_entry m s)
        → AreBetween (string_entries m) (string_entries new) [] []
    strings-stay rows same = none-between (string_entries m) (string_entries new) (ap (map (string_entry new)) rows ∙ map-same (string_entry new) (string_entry m) m.strings same)

    points-stay : map point_entry new.points ≡ map point_entry m.points → AreBetween (point_entries m) (point_entries new) [] []
    points-stay same = none-between (point_entries m) (point_entries new) same

    points-put : (row : PointRow) → point_of m row.number ≡ None → new.points ≡ m.points ++ row ∷ []
        → AreBetween (point_entries m) (point_entries new) [] (point_entry row ∷ [])
    points-put row fresh rows = subst (λ (l : List PointRow). AreBetween (point_entries m) (map point_entry l) [] (point_entry row ∷ [])) (sym rows)
        (put of_point point_entry point_entry (λ r. refl) (λ r. refl) m.points v.sound.v1.points.distinct (row ∷ [])
        (only (λ (r : PointRow). point_of m r.number ≡ None) row fresh) (tt, tt) (λ r h. refl))

    points-taken : (p : ℕ) → new.points ≡ without_row of_point p m.points
        → AreBetween (point_entries m) (point_entries new) (map point_entry (filter (λ r. r.number == p) m.points)) []
    points-taken p rows = subst (λ (l : List PointRow). AreBetween (point_entries m) (map point_entry l) (map point_entry (filter (λ r. r.number == p) m.points)) []) (sym rows)
        (taken of_point point_entry point_entry (λ r. refl) (λ r. refl) m.points v.sound.v1.points.distinct (λ r. r.number == p) (λ r h is. refl))

  -- ---- Sources and labels

  abbrev Unchanged : Map → Type 0
  Unchanged new = IsExchange m nothing nothing new

  unchanged : Unchanged m
  unchanged = exchange m [] [] [] [] (strings-stay m refl (λ s h. refl)) (points-stay m refl)

  point-changed : (n : ℕ) (change : List ℕ → List ℕ) → Unchanged (change_point n (λ r. record r { sources = change r.sources }) m)
  point-changed n change = if-changed Unchanged m (point_of m n) _ unchanged (λ r is.
      let row : PointRow = record r { sources = change r.sources } in
      let found = found-own of_point n m.points r is in
      let at = same-position m r row found refl in
      exchange (with_point m row) [] [] [] [] (strings-stay (with_point m row) refl (λ s h. laid (with_point m row) s (at s.from) (at s.to)))
      (points-stay (with_point m row) (map-with_row-same of_point point_entry row r m.points v.sound.v1.points.distinct found refl)))

  string-changed : (n : ℕ) (change : List ℕ → List ℕ) → Unchanged (change_string n (λ r. record r { sources = change r.sources }) m)
  string-changed n change = if-changed Unchanged m (string_of m n) _ unchanged (λ r is.
      let row : StringRow = record r { sources = change r.sources } in
      let new : Map = record m { strings = with_row of_string row m.strings } in
      exchange new [] [] [] []
      (none-between (string_entries m) (string_entries new) (map-with_row-same of_string (string_entry m) row r m.strings v.sound.v1.strings.distinct (found-own of_string n m.strings r is) refl))
      (points-stay new refl))

  parcel-changed : (n : ℕ) (change : ParcelRow → ParcelRow) → Unchanged (change_parcel n change m)
  parcel-changed n change = if-changed Unchanged m (parcel_of m n) _ unchanged (λ r is.
      let new : Map = record m { parcels = with_row (λ (q : ParcelRow). q.number) (change r) m.parcels } in
      exchange new [] [] [] [] (strings-stay new refl (λ s h. refl)) (points-stay new refl))

  sources-changed : (i : Item) (change : List ℕ → List ℕ) → IsExchange m nothing nothing (change_sources i change m)
  sources-changed (item.Point n) change = point-changed n change
  sources-changed (item.String n) change = string-changed n change
  sources-changed (item.Parcel n) change = parcel-changed n (λ r. record r { sources = change r.sources })

  -- ---- A point comes, goes or moves

  pub pushed-at : (new : Map) (row : PointRow) → new.points ≡ m.points ++ row ∷ [] → (q : ℕ) → IsTrue (has_point m q) → position_of new q ≡ position_of m q
  pushed-at new row rows q known = ap placed (ap (row_with of_point q) rows ∙ same-pushed of_point q m.points (row ∷ []) known)

  pub without-at : (new : Map) (p : ℕ) → new.points ≡ without_row of_point p m.points → (q : ℕ) → q ≢ p → position_of new q ≡ position_of m q
  without-at new p rows q off = ap placed (ap (row_with of_point q) rows ∙ same-without of_point q p m.points off)

  point-added : (row : PointRow) → point_of m row.number ≡ None
      → IsExchange m nothing (record { strings = []; points = point_entry row ∷ [] }) (record m { points = m.points ++ row ∷ [] })
  point-added row fresh =
      let new : Map = record m { points = m.points ++ row ∷ [] } in
      exchange new [] [] [] (point_entry row ∷ [])
      (strings-stay new refl (λ s h. all-laid new (λ q. Unit {0}) (λ q known ok. pushed-at new row refl q known) s h (tt, tt))) (points-put new row fresh refl)

  point-dropped : (p : ℕ) → IsAllowed m (DropPoint p)
      → IsExchange m (gone_by m (DropPoint p)) nothing (record m { points = without_row of_point p m.points })
  point-dropped p free =
      let new : Map = record m { points = without_row of_point p m.points } in
      let none = no_end p m.strings (is_nothing (strings_at m p) (free-dropped m p free.not_free)) in
      exchange new [] [] (gone_by m (DropPoint p)).points [] (strings-stay new refl (λ s h.
      all-laid new (λ q. q ≢ p) (λ q known off. without-at new p refl q off) s h (All-at_each (λ (r : StringRow). (r.from ≢ p) × (r.to ≢ p)) m.strings s none h)))
      (points-taken new p refl)

  module _ (p : ℕ) (x y : ℤ) (row : PointRow) (is : point_of m p ≡ Some row) (other : is_same_position (position_of m p) (record { x = x; y = y }) ≡ false) where
    abbrev there : Position
    there = record { x = x; y = y }

    abbrev row_moved : PointRow
    row_moved = record row { position = there }

    abbrev map_moved : Map
    map_moved = with_point m row_moved

    numbered : row.number ≡ p
    numbered = found-number of_point p m.points row is

    pub at-new : position_of map_moved p ≡ there
    at-new = ap (position_of map_moved) (sym numbered) ∙ ap placed (own-with_row of_point row_moved m.points (ap (λ (o : Option PointRow). is_some o) (ap (point_of m) numbered ∙ is)))

    pub at-others : (q : ℕ) → q ≢ p → position_of map_moved q ≡ position_of m q
    at-others q off = ap placed (same-with_row of_point q row_moved m.points (λ e. off (e ∙ numbered)))

    away : ¬ (position_of m p ≡ position_of map_moved p)
    away same = told-apart (position_of m p) there other (same ∙ at-new)

    string-away : (s : StringRow) → Contains m.strings s → is_end s p ≡ true → ¬ (string_entry m s ≡ string_entry map_moved s)
    string-away s h end same = elim (ends s p end) [
      | inl e ↦ away (ap (position_of m) (sym e.0) ∙ ap (λ (t : Entry). t.from) same ∙ ap (position_of map_moved) e.0)
      | inr e ↦ away (ap (position_of m) (sym e.0) ∙ ap (λ (t : Entry). t.to) same ∙ ap (position_of map_moved) e.0)
    ]

    string-kept : (s : StringRow) → Contains m.strings s → is_end s p ≡ false → string_entry map_moved s ≡ string_entry m s
    string-kept s h off = laid map_moved s
        (at-others s.from (λ e. true≢false (sym (is_end-of s p (inl e)) ∙ off)))
        (at-others s.to (λ e. true≢false (sym (is_end-of s p (inr e)) ∙ off)))

    -- the point rows as they are after the move
    abbrev change : PointRow → PointRow
    change r = if r.number == row.number then row_moved else r

    abbrev entry_moved : PointRow → Entry
    entry_moved r = point_entry (change r)

    own : (r : PointRow) → (r.number == p) ≡ true → change r ≡ row_moved
    own r e = let same : (r.number == row.number) ≡ true = ap (λ (n : ℕ). r.number == n) numbered ∙ e in rw same refl

    not-own : (r : PointRow) → (r.number == p) ≡ false → change r ≡ r
    not-own r e = let off : (r.number == row.number) ≡ false = ap (λ (n : ℕ). r.number == n) numbered ∙ e in rw off refl

    change-number : (r : PointRow) → (entry_moved r).number ≡ r.number
    change-number r = by (r.number == row.number) refl
      where
        by : (b : Bool) → (r.number == row.number) ≡ b → (entry_moved r).number ≡ r.number
        by true e = rw e (sym (eqb-true r.number row.number e))
        by false e = rw e refl

    point-away : (r : PointRow) → Contains m.points r → (r.number == p) ≡ true → ¬ (point_entry r ≡ entry_moved r)
    point-away r h e same =
        let one = one-row of_point m.points v.sound.v1.points.distinct r row h (find-Contains (λ (q : PointRow). q.number == p) m.points row is).0
        (eqb-true r.number p e ∙ sym numbered) in
        away (ap placed is ∙ ap (λ (q : PointRow). q.position) (sym one) ∙ ap (λ (t : Entry). t.from) (same ∙ ap point_entry (own r e)) ∙ sym at-new)

    points-moved : AreBetween (point_entries m) (point_entries map_moved) (map point_entry (filter (λ r. r.number == p) m.points))
        (map point_entry (map (λ (r : PointRow). record r { position = there }) (filter (λ r. r.number == p) m.points)))
    points-moved =
        let picked = filter (λ (r : PointRow). r.number == p) m.points in
        let come : map entry_moved picked ≡ map point_entry (map (λ (r : PointRow). record r { position = there }) picked) =
        map-same entry_moved (λ (r : PointRow). point_entry (record r { position = there })) picked (λ r h.
        let e = (filter-Contains (λ (q : PointRow). q.number == p) m.points r h).1 in
        ap point_entry (own r e) ∙ ap (λ (n : ℕ). entry_of n there there) (numbered ∙ sym (eqb-true r.number p e)))
        ∙ sym (map-map point_entry (λ (r : PointRow). record r { position = there }) picked) in
        subst (λ (l : List Entry). AreBetween (point_entries m) l (map point_entry picked) (map point_entry (map (λ (r : PointRow). record r { position = there }) picked)))
        (sym (map-map point_entry change m.points))
        (subst (λ (l : List Entry). AreBetween (point_entries m) (map entry_moved m.points) (map point_entry picked) l) come
        (moved of_point point_entry entry_moved (λ r. refl) change-number m.points v.sound.v1.points.distinct (λ r. r.number == p) point-away
        (λ r h e. ap point_entry (not-own r e))))

    point-moved : IsExchange m (gone_by m (Move p x y))
        (record { strings = map (string_entry map_moved) (strings_at m p); points = (come_by m (Move p x y)).points }) map_moved
    point-moved = exchange map_moved (gone_by m (Move p x y)).strings (map (string_entry map_moved) (strings_at m p)) (gone_by m (Move p x y)).points (come_by m (Move p x y)).points
        (moved of_string (string_entry m) (string_entry map_moved) (λ s. refl) (λ s. refl) m.strings v.sound.v1.strings.distinct (λ s. is_end s p) string-away string-kept)
        points-moved

  -- ---- Strings come and go

  strings-turned : (new : Map) (goes : StringRow → Bool) (more : List StringRow) → ((r : StringRow) → Contains more r → string_of m r.number ≡ None) → AreApart of_string more
      → ((s : StringRow) → Contains m.strings s → goes s ≡ false → string_entry new s ≡ string_entry m s)
      → new.strings ≡ filter (λ s. not (goes s)) m.strings ++ more
      → AreBetween (string_entries m) (string_entries new) (map (string_entry m) (filter goes m.strings)) (map (string_entry new) more)
  strings-turned new goes more fresh apart same rows =
      subst (λ (l : List StringRow). AreBetween (string_entries m) (map (string_entry new) l) (map (string_entry m) (filter goes m.strings)) (map (string_entry new) more)) (sym rows)
      (turned of_string (string_entry m) (string_entry new) (λ s. refl) (λ s. refl) m.strings v.sound.v1.strings.distinct goes more fresh apart same)

  string-split : (s p : ℕ) (x y : ℤ) (first second : ℕ) (row : StringRow) → string_of m s ≡ Some row → IsAllowed m (Split s p x y first second)
      → let new = split m row p x y first second in
      IsExchange m (gone_by m (Split s p x y first second))
      (record {
        strings = map (string_entry new) (record { number = first; from = row.from; to = p; sources = row.sources } ∷ record { number = second; from = p; to = row.to; sources = row.sources } ∷ []);
        points = (come_by m (Split s p x y first second)).points;
      }) new
  string-split s p x y first second row is free =
      let new = split m row p x y first second in
      let point : PointRow = record { number = p; position = record { x = x; y = y }; sources = [] } in
      exchange new (gone_by m (Split s p x y first second)).strings (map (string_entry new) more) [] (point_entry point ∷ [])
      (subst (λ (n : ℕ). AreBetween (string_entries m) (string_entries new) (map (string_entry m) (filter (λ r. r.number == n) m.strings)) (map (string_entry new) more))
      (found-number of_string s m.strings row is)
      (strings-turned new (λ r. r.number == row.number) more fresh ((halves-differ s p x y first second free.bad_chain, tt), (tt, tt))
      (λ r h off. all-laid new (λ q. Unit {0}) (λ q known ok. pushed-at new point refl q known) r h (tt, tt)) refl))
      (points-put new point new_numbers.0 refl)
    where
      one : StringRow
      one = record { number = first; from = row.from; to = p; sources = row.sources }

      two : StringRow
      two = record { number = second; from = p; to = row.to; sources = row.sources }

      more : List StringRow
      more = one ∷ two ∷ []

      new_numbers : (point_of m p ≡ None) × (string_of m first ≡ None) × (string_of m second ≡ None)
      new_numbers = free-split m s p x y first second free.taken

      fresh : (r : StringRow) → Contains more r → string_of m r.number ≡ None
      fresh r h = elim (Contains-cases one (two ∷ []) r h) [
        | inl same ↦ subst (λ (q : StringRow). string_of m q.number ≡ None) same new_numbers.1
        | inr later ↦ only (λ (q : StringRow). string_of m q.number ≡ None) two new_numbers.2 r later
      ]

  strings-joined : (p new : ℕ) → IsAllowed m (Join p new) → IsExchange m (gone_by m (Join p new))
      (record { strings = map (string_entry (join m p new)) (string_joining p new (by_number (strings_at m p))); points = [] }) (join m p new)
  strings-joined p new free =
      exchange (join m p new) (map (string_entry m) (strings_at m p)) (map (string_entry (join m p new)) more) (gone_by m (Join p new)).points []
      (strings-turned (join m p new) (λ s. is_end s p) more fresh (subst (λ (l : List StringRow). AreApart of_string (string_joining p new l)) (sym meet.are) (tt, tt)) kept refl)
      (points-taken (join m p new) p refl)
    where
      meet : MeetAt m p
      meet = meet-at m p (two-joined m p new free.not_degree_two)

      more : List StringRow
      more = string_joining p new (by_number (strings_at m p))

      fresh : (r : StringRow) → Contains more r → string_of m r.number ≡ None
      fresh r h =
          only (λ (q : StringRow). string_of m q.number ≡ None) _ (free-join m p new free.taken) r
          (subst (λ (l : List StringRow). Contains (string_joining p new l) r) meet.are h)

      kept : (s : StringRow) → Contains m.strings s → is_end s p ≡ false → string_entry (join m p new) s ≡ string_entry m s
      kept s h off = all-laid (join m p new) (λ q. q ≢ p) (λ q known other. without-at (join m p new) p refl q other) s h
          ((λ e. true≢false (sym (is_end-of s p (inl e)) ∙ off)), (λ e. true≢false (sym (is_end-of s p (inr e)) ∙ off)))

  -- strings along a chain come last, and no point changes
  strings-put : (new : Map) (sources chain strings : List ℕ) → length strings + 1 ≡ length chain → AllByRecursion (λ s. string_of m s ≡ None) strings → EachPair (λ a b. a ≢ b) strings
      → new.points ≡ m.points → new.strings ≡ m.strings ++ strings_along sources strings chain
      → IsExchange m nothing (record { strings = map (string_entry new) (strings_along sources strings chain); points = [] }) new
  strings-put new sources chain strings fits free apart points rows =
      exchange new [] (map (string_entry new) more) [] []
      (subst (λ (l : List StringRow). AreBetween (string_entries m) (map (string_entry new) l) [] (map (string_entry new) more)) (sym rows)
      (put of_string (string_entry m) (string_entry new) (λ s. refl) (λ s. refl) m.strings v.sound.v1.strings.distinct more fresh other
      (λ s h. laid new s (at s.from) (at s.to))))
      (points-stay new (ap (map point_entry) points))
    where
      more : List StringRow
      more = strings_along sources strings chain

      at : (q : ℕ) → position_of new q ≡ position_of m q
      at q = ap placed (ap (row_with of_point q) points)

      numbers : map of_string more ≡ strings
      numbers = numbers-strings_along sources strings chain fits

      fresh : (r : StringRow) → Contains more r → string_of m r.number ≡ None
      fresh r h = All-Contains (λ s. string_of m s ≡ None) strings r.number free (subst (λ (l : List ℕ). Contains l r.number) numbers (Contains-map of_string more r h))

      other : AreApart of_string more
      other = subst (EachPair (λ a b. a ≢ b)) (sym numbers) apart

  shared-taken : (k n : ℕ) → IsExchange m (gone_by m (Merge (Parcel k) (Parcel n))) nothing (merge m (Parcel k) (Parcel n))
  shared-taken k n =
      let new = merge m (Parcel k) (Parcel n) in
      exchange new (gone_by m (Merge (Parcel k) (Parcel n))).strings [] [] []
      (taken of_string (string_entry m) (string_entry new) (λ s. refl) (λ s. refl) m.strings v.sound.v1.strings.distinct (is_shared m (Parcel k) (Parcel n)) (λ s h off. refl))
      (points-stay new refl)

-- ---- Each edit

pub exchanged : (m : Map) (e : Edit) → IsTried m e → IsExchange m (gone_by m e) (come_by m e) (after m e)
unfolding after
exchanged m (AddSource s text) t =
    let new : Map = record m { sources = m.sources ++ record { number = s; text = text } ∷ [] } in
    exchange m t.valid new [] [] [] [] (strings-stay m t.valid new refl (λ s h. refl)) (points-stay m t.valid new refl)
exchanged m (AddPoint p x y) t =
    point-added m t.valid (record { number = p; position = record { x = x; y = y }; sources = [] }) (free-point m p x y (allowed m (AddPoint p x y) t.allowed).taken)
exchanged m (DropPoint p) t = point-dropped m t.valid p (allowed m (DropPoint p) t.allowed)
exchanged m (Split s p x y first second) t =
    let free = allowed m (Split s p x y first second) t.allowed in
    let there = some-from (string_of m s) (there-one m (name.String s) free.unknown) in
    rw there.1 (string-split m t.valid s p x y first second there.0 there.1 free)
exchanged m (Join p new) t = strings-joined m t.valid p new (allowed m (Join p new) t.allowed)
exchanged m (Divide face chain strings parcel label source) t =
    let e = Divide face chain strings parcel label source in
    let can = can-divide m face chain strings parcel label source t.given (allowed m e t.allowed) in
    strings-put m t.valid (after m e) (source ∷ []) chain strings can.as_many can.rows.strings_new (pairs-from_distinct strings can.rows.strings_distinct) refl refl
exchanged m (Merge kept ended) t =
    let names = names-parcels m kept ended (allowed m (Merge kept ended) t.allowed) in
    subst (λ (f : Face). IsExchange m (gone_by m (Merge f ended)) nothing (merge m f ended)) (sym names.kept_is)
    (subst (λ (f : Face). IsExchange m (gone_by m (Merge (Parcel names.first) f)) nothing (merge m (Parcel names.first) f)) (sym names.ended_is)
    (shared-taken m t.valid names.first names.second))
exchanged m (Move p x y) t =
    let free = allowed m (Move p x y) t.allowed in
    let there = some-from (point_of m p) (there-one m (name.Point p) free.unknown) in
    let it = point-moved m t.valid p x y there.0 there.1 (not-when _ _ free.no_change) in
    rw there.1 it
exchanged m (Attach i s) t = sources-changed m t.valid i (λ sources. sources ++ s ∷ [])
exchanged m (Detach i s) t = sources-changed m t.valid i (λ sources. filter (λ r. not (r == s)) sources)
exchanged m (Rename p label) t = parcel-changed m t.valid p (λ r. record r { label = label })
exchanged m (Enclose face points strings parcel label source) t =
    let e = Enclose face points strings parcel label source in
    let can = can-enclose m face points strings parcel label source t.given (allowed m e t.allowed) in
    let more = length-push points (start_of points) in
    let many = can.as_many in
    strings-put m t.valid (after m e) (source ∷ []) (points ++ start_of points ∷ []) strings (omega (arith, more, many)) can.rows.strings_new (pairs-from_distinct strings can.rows.strings_distinct) refl refl
