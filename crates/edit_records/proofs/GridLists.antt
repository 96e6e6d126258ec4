-- What is listed beside either map of an edit is what the edit takes out of a grid, or puts into it.
use Rattle.std.proofs.Common.{◌≡◌, ◌≢◌, ℕ, zero, suc, ℤ, ◌+◌, ◌⊎◌, inl, inr, refl, sym, ap, subst, ◌∙◌, List, [], ◌∷◌, ◌++◌, length, map, filter, take, slice_get, ◌==◌, Bool, true, false, true≢false, Option, None, Some, is_some, arith}
use Rattle.std.proofs.lemmas.Bool.{eqb-true}
use Rattle.std.proofs.lemmas.Bool.Decides.{same_from_decides}
use Rattle.std.proofs.lemmas.Cmp.{nat_eq_equiv}
use Rattle.std.proofs.lemmas.List.Sorted.{IsPermutation-refl, IsPermutation-sym, IsPermutation-map, Contains-permutation}
use Rattle.std.proofs.lemmas.Map.Keys.{IsDistinct-IsPermutation}
use Rattle.std.proofs.lemmas.Map.Made.{AllPairs-from_IsDistinct, IsDistinct-from_AllPairs}
use Rattle.std.specs.Bool.{Decides}
use Rattle.std.specs.Prelude.{IsPermutation, IsTrue}
use Rattle.std.specs.List.{Contains}
use Rattle.geo_exact.specs.Position.{Position}
use Rattle.cad_rows.specs.declared.edits.Edit.{Edit}
use Rattle.cad_rows.specs.declared.edits.Edit.TheVariants.{DropPoint, Split, Join, Divide, Merge, Move, Enclose}
use Rattle.cad_rows.specs.declared.names.Face.{Face}
use Rattle.cad_rows.specs.declared.names.Face.TheVariants.{Outside, Parcel}
use Rattle.cad_rows.specs.declared.names.Name.TheVariants as name
use Rattle.cad_rows.specs.declared.rows.PointRow.{PointRow}
use Rattle.cad_rows.specs.declared.rows.StringRow.{StringRow}
use Rattle.cad_map.specs.declared.span.Span.{Span}
use Rattle.cad_map.specs.Chain.{start_of, strings_along}
use Rattle.cad_map.specs.Changes.{with_point, by_number}
use Rattle.cad_map.specs.Effects.{after}
use Rattle.cad_map.specs.Map.{Map, point_of, string_of, has_point, position_of, is_end, far_end, strings_at}
use Rattle.cad_map.specs.Spans.{span_of}
use Rattle.numbered_rows.specs.Rows.{row_with, without_row}
use Rattle.cad_map.specs.Valid.{IsValid, EachPair, is_same_position}
use Rattle.cad_map.proofs.CallerLemmas.{allowed, not-when, there-one, two-joined, free-split, can-divide, CanDivide, MeetAt, meet-at, All-at_each, Contains-first, Contains-later, Contains-map, filter-Contains, find-Contains, found-number, differs, ends}
use Rattle.cad_laws.specs.Counts.{shared_strings}
use Rattle.cad_laws.specs.Tried.{IsTried}
use Rattle.cad_laws.proofs.CallerLemmas.{filter-none, map-map, map-same}
use Rattle.cell_grid.specs.declared.entry.Entry.{Entry}
use Rattle.cell_grid.specs.Grid.{entry_of}
use Rattle.cell_grid.specs.Together.{Listed}
use Rattle.cell_grid.specs.Entries.{is_same_entry}
use Rattle.cell_grid.proofs.CallerLemmas.{same_entry, is_itself}
use Rattle.edit_records.specs.Gridded.{string_entry, point_entry, string_entries, point_entries}
use Rattle.edit_records.specs.Exchanged.{AreOnlyOf, IsExchange}
use Rattle.edit_records.specs.GridEdits.{gone_by, come_by}
use Rattle.edit_records.specs.GridLists.{position_by, span_entry, span_at, AreEntries, IsBeside}
use Rattle.edit_records.proofs.EditExchanges.{some-from, of_point, of_string, placed, pushed-at, without-at, at-new, at-others}

-- ---- Lists

same-entries : (of l : Listed) → of.strings ≡ l.strings → of.points ≡ l.points → AreEntries of l
same-entries of l strings points = record {
  strings = subst (IsPermutation of.strings) strings (IsPermutation-refl of.strings);
  points = subst (IsPermutation of.points) points (IsPermutation-refl of.points);
}

-- a list that reads as another has the same entries
pub entries-of : (of l k : Listed) → l.strings ≡ k.strings → l.points ≡ k.points → AreEntries of k → AreEntries of l
entries-of of l k strings points are = record {
  strings = subst (IsPermutation of.strings) (sym strings) are.strings;
  points = subst (IsPermutation of.points) (sym points) are.points;
}

module _ {R : Type 0} (number : R → ℕ) where
  -- of rows with different numbers one alone has the number
  picked-alone : (n : ℕ) (row : R) (rows : List R) → EachPair (λ a b. a ≢ b) (map number rows) → row_with number n rows ≡ Some row → filter (λ r. number r == n) rows ≡ row ∷ []
  picked-alone n row [] apart found = cc
  picked-alone n row (r ∷ rows) apart found = by (number r == n) refl (picked-alone n row rows apart.1)
    where
      other : number r ≡ n → (q : R) → Contains rows q → (number q == n) ≡ false
      other same q h = tested (number q == n) refl
        where
          tested : (b : Bool) → (number q == n) ≡ b → (number q == n) ≡ false
          tested true is = absurd (All-at_each (λ k. number r ≢ k) (map number rows) (number q) apart.0 (Contains-map number rows q h) (same ∙ sym (eqb-true (number q) n is)))
          tested false is = is

      by : (b : Bool) → (number r == n) ≡ b → (row_with number n rows ≡ Some row → filter (λ r. number r == n) rows ≡ row ∷ []) → filter (λ r. number r == n) (r ∷ rows) ≡ row ∷ []
      by true is rest =
          let here : Some r ≡ Some row = rw is at found in
          let same : r ≡ row = cc in
          rw is (ap (λ (l : List R). r ∷ l) (filter-none (λ q. number q == n) rows (other (eqb-true (number r) n is))) ∙ ap (λ (q : R). q ∷ []) same)
      by false is rest = rw is (rest (rw is at found))

  -- a row that comes last with a number of its own is found by it
  pushed-own : (row : R) (rows : List R) → row_with number (number row) rows ≡ None → row_with number (number row) (rows ++ row ∷ []) ≡ Some row
  pushed-own row [] none = rw (nat_eq_equiv.refl (number row)) refl
  pushed-own row (r ∷ rows) none = by (number r == number row) refl (pushed-own row rows)
    where
      by : (b : Bool) → (number r == number row) ≡ b → (row_with number (number row) rows ≡ None → row_with number (number row) (rows ++ row ∷ []) ≡ Some row)
          → row_with number (number row) (r ∷ (rows ++ row ∷ [])) ≡ Some row
      by true is rest = let some : Some r ≡ None = rw is at none in cc
      by false is rest = rw is (rest (rw is at none))

-- ---- Positions beside either map

module _ (m t : Map) (p : ℕ) (at : Position) where
  by-point : (q : ℕ) → (q ≡ p → position_of t q ≡ at) → (q ≢ p → position_of m q ≡ position_of t q) → position_by m p at q ≡ position_of t q
  by-point q own other = by (q == p) refl
    where
      by : (b : Bool) → (q == p) ≡ b → position_by m p at q ≡ position_of t q
      by true is = rw is (sym (own (eqb-true q p is)))
      by false is = rw is (other (differs q p is))

-- Of a point that lies in both maps at one position it is told by either.
either : (m b a : Map) → (m ≡ b) ⊎ (m ≡ a) → (q : ℕ) → position_of a q ≡ position_of b q → (position_of m q ≡ position_of b q) × (position_of m q ≡ position_of a q)
either m b a (inl e) q same = let here = ap (λ (n : Map). position_of n q) e in (here, here ∙ sym same)
either m b a (inr e) q same = let here = ap (λ (n : Map). position_of n q) e in (here ∙ same, here)

known-ends : (b : Map) → IsValid b → (s : StringRow) → Contains b.strings s → IsTrue (has_point b s.from) × IsTrue (has_point b s.to)
known-ends b v s h = All-at_each (λ (r : StringRow). IsTrue (has_point b r.from) × IsTrue (has_point b r.to)) b.strings s v.sound.v1.ends h

there-string : (b : Map) (n : ℕ) (row : StringRow) → string_of b n ≡ Some row → Contains b.strings row
there-string b n row is = (find-Contains (λ (r : StringRow). r.number == n) b.strings row is).0

-- a point that isn't in the map is none of its points
not-new : (b : Map) (p q : ℕ) → point_of b p ≡ None → IsTrue (has_point b q) → q ≢ p
not-new b p q none known same = true≢false (sym known ∙ ap (has_point b) same ∙ ap (λ (o : Option PointRow). is_some o) none)

-- ---- One point

one-point : (b : Map) (point : ℕ) (at : Position) (row : PointRow) → IsValid b → point_of b point ≡ Some row → row.position ≡ at
    → map point_entry (filter (λ r. r.number == point) b.points) ≡ entry_of point at at ∷ []
one-point b point at row v is there =
    ap (map point_entry) (picked-alone of_point point row b.points v.sound.v1.points.distinct is)
    ∙ (λ i. entry_of (found-number of_point point b.points row is i) (there i) (there i) ∷ [])

pub dropped-point : (b : Map) (point : ℕ) (at : Position) (row : PointRow) → IsValid b → point_of b point ≡ Some row → row.position ≡ at
    → AreEntries (gone_by b (DropPoint point)) (record { strings = []; points = entry_of point at at ∷ [] })
dropped-point b point at row v is there =
    same-entries (gone_by b (DropPoint point)) _ refl (one-point b point at row v is there)

-- ---- A split

module _ (m b : Map) (p : ℕ) (x y : ℤ) (first second : ℕ) (row : StringRow) (is : string_of b row.number ≡ Some row) (beside : IsBeside m b (Split row.number p x y first second)) where
  abbrev at : Position
  at = record { x = x; y = y }

  abbrev made : Map
  made = after b (Split row.number p x y first second)

  abbrev new_point : PointRow
  new_point = record { number = p; position = at; sources = [] }

  split-points : made.points ≡ b.points ++ new_point ∷ []
  unfolding after
  split-points = rw is refl

  fresh : point_of b p ≡ None
  fresh = (free-split b row.number p x y first second (allowed b (Split row.number p x y first second) beside.tried.allowed).taken).0

  split-own : position_of made p ≡ at
  split-own = ap placed (ap (row_with of_point p) split-points ∙ pushed-own of_point new_point b.points fresh)

  split-others : (q : ℕ) → IsTrue (has_point b q) → (position_of m q ≡ position_of b q) × (position_of m q ≡ position_of made q)
  split-others q known = either m b made beside.is q (pushed-at b beside.tried.valid made new_point split-points q known)

  split-ends : IsTrue (has_point b row.from) × IsTrue (has_point b row.to)
  split-ends = known-ends b beside.tried.valid row (there-string b row.number row is)

  -- an end of the string before the split
  before-end : (q : ℕ) → IsTrue (has_point b q) → position_by m p at q ≡ position_of b q
  before-end q known = by-point m b p at q (λ same. absurd (not-new b p q fresh known same)) (λ off. (split-others q known).0)

  -- and after it
  after-end : (q : ℕ) → IsTrue (has_point b q) → position_by m p at q ≡ position_of made q
  after-end q known = by-point m made p at q (λ same. ap (position_of made) same ∙ split-own) (λ off. (split-others q known).1)

  after-own : position_by m p at p ≡ position_of made p
  after-own = by-point m made p at p (λ same. split-own) (λ off. absurd (off refl))

  pub split-gone : AreEntries (gone_by b (Split row.number p x y first second)) (record { strings = span_at m p at row ∷ []; points = [] })
  split-gone = same-entries (gone_by b (Split row.number p x y first second)) _
      (ap (map (string_entry b)) (picked-alone of_string row.number row b.strings beside.tried.valid.sound.v1.strings.distinct is)
      ∙ sym (λ i. entry_of row.number (before-end row.from split-ends.0 i) (before-end row.to split-ends.1 i) ∷ []))
      refl

  pub split-come : (one two : Span) → one.string ≡ first → two.string ≡ second → one.from ≡ row.from → one.to ≡ p → two.from ≡ p → two.to ≡ row.to
      → AreEntries (come_by b (Split row.number p x y first second)) (record { strings = span_entry m p at one ∷ span_entry m p at two ∷ []; points = entry_of p at at ∷ [] })
  split-come one two e1 e2 one_from one_to two_from two_to = same-entries (come_by b (Split row.number p x y first second)) _ (rw is (sym (λ i.
      entry_of (e1 i) (front i) (middle_one i) ∷ entry_of (e2 i) (middle_two i) (back i) ∷ []))) refl
    where
      front : position_by m p at one.from ≡ position_of made row.from
      front = ap (position_by m p at) one_from ∙ after-end row.from split-ends.0

      middle_one : position_by m p at one.to ≡ position_of made p
      middle_one = ap (position_by m p at) one_to ∙ after-own

      middle_two : position_by m p at two.from ≡ position_of made p
      middle_two = ap (position_by m p at) two_from ∙ after-own

      back : position_by m p at two.to ≡ position_of made row.to
      back = ap (position_by m p at) two_to ∙ after-end row.to split-ends.1

pub split-gone_span : (m b : Map) (p : ℕ) (x y : ℤ) (first second : ℕ) (span : Span) (row : StringRow) → IsBeside m b (Split span.string p x y first second)
    → string_of b span.string ≡ Some row → span ≡ span_of row
    → AreEntries (gone_by b (Split span.string p x y first second)) (record { strings = span_entry m p (record { x = x; y = y }) span ∷ []; points = [] })
split-gone_span m b p x y first second span row beside is same =
    subst (λ (s : Span). IsBeside m b (Split s.string p x y first second) → string_of b s.string ≡ Some row
    → AreEntries (gone_by b (Split s.string p x y first second)) (record { strings = span_entry m p (record { x = x; y = y }) s ∷ []; points = [] })) (sym same)
    (λ beside is. split-gone m b p x y first second row is beside) beside is

-- ---- A join

-- the far end of a string at a point is another one
far-off : (b : Map) → IsValid b → (p : ℕ) (s : StringRow) → Contains (strings_at b p) s → far_end s p ≢ p
far-off b v p s h same =
    let k = filter-Contains (λ (r : StringRow). is_end r p) b.strings s h in
    let two = All-at_each (λ (r : StringRow). r.from ≢ r.to) b.strings s v.sound.v2 k.0 in
    elim (ends s p k.1) [
      | inl e ↦ two (e.0 ∙ sym (e.1 ∙ same))
      | inr e ↦ two (e.1 ∙ same ∙ sym e.0)
    ]

far-known : (b : Map) → IsValid b → (p : ℕ) (s : StringRow) → Contains (strings_at b p) s → IsTrue (has_point b (far_end s p))
far-known b v p s h =
    let k = filter-Contains (λ (r : StringRow). is_end r p) b.strings s h in
    let known = known-ends b v s k.0 in
    elim (ends s p k.1) [
      | inl e ↦ subst (λ (q : ℕ). IsTrue (has_point b q)) e.1 known.1
      | inr e ↦ subst (λ (q : ℕ). IsTrue (has_point b q)) e.1 known.0
    ]

module _ (m b : Map) (p new : ℕ) (beside : IsBeside m b (Join p new)) (s t : StringRow) (are : by_number (strings_at b p) ≡ s ∷ t ∷ []) where
  abbrev joined_map : Map
  joined_map = after b (Join p new)

  meet : MeetAt b p
  meet = meet-at b p (two-joined b p new (allowed b (Join p new) beside.tried.allowed).not_degree_two)

  the-two : IsPermutation (strings_at b p) (s ∷ t ∷ [])
  the-two = subst (IsPermutation (strings_at b p)) (sym meet.are ∙ are) meet.at

  of-point : (r : StringRow) → Contains (s ∷ t ∷ []) r → Contains (strings_at b p) r
  of-point r h = Contains-permutation (s ∷ t ∷ []) (strings_at b p) r (IsPermutation-sym (strings_at b p) (s ∷ t ∷ []) the-two) h

  at-s : Contains (strings_at b p) s
  at-s = of-point s (Contains-first s (t ∷ []))

  at-t : Contains (strings_at b p) t
  at-t = of-point t (Contains-later s (t ∷ []) t (Contains-first t []))

  join-points : joined_map.points ≡ without_row of_point p b.points
  unfolding after
  join-points = refl

  join-others : (q : ℕ) → q ≢ p → (position_of m q ≡ position_of b q) × (position_of m q ≡ position_of joined_map q)
  join-others q off = either m b joined_map beside.is q (without-at b beside.tried.valid joined_map p join-points q off)

  pub join-come : (at : Position) (span : Span) → span.string ≡ new → span.from ≡ far_end s p → span.to ≡ far_end t p
      → AreEntries (come_by b (Join p new)) (record { strings = span_entry m p at span ∷ []; points = [] })
  join-come at span string from to = same-entries (come_by b (Join p new)) _ (rw are (sym (λ i. entry_of (string i) (front i) (back i) ∷ []))) refl
    where
      end : (q : ℕ) → q ≢ p → position_by m p at q ≡ position_of joined_map q
      end q off = by-point m joined_map p at q (λ same. absurd (off same)) (λ _. (join-others q off).1)

      front : position_by m p at span.from ≡ position_of joined_map (far_end s p)
      front = ap (position_by m p at) from ∙ end (far_end s p) (far-off b beside.tried.valid p s at-s)

      back : position_by m p at span.to ≡ position_of joined_map (far_end t p)
      back = ap (position_by m p at) to ∙ end (far_end t p) (far-off b beside.tried.valid p t at-t)

  module _ (at : Position) (row : PointRow) (is : point_of b p ≡ Some row) (there : row.position ≡ at) where
    join-own : position_of b p ≡ at
    join-own = ap placed is ∙ there

    own-entry : (r : StringRow) → span_at m p at r ≡ string_entry b r
    own-entry r = λ i. entry_of r.number (end r.from i) (end r.to i)
      where
        end : (q : ℕ) → position_by m p at q ≡ position_of b q
        end q = by-point m b p at q (λ same. ap (position_of b) same ∙ join-own) (λ off. (join-others q off).0)

    pub join-gone : (one two : Span) → one ≡ span_of s → two ≡ span_of t
        → AreEntries (gone_by b (Join p new)) (record { strings = span_entry m p at one ∷ span_entry m p at two ∷ []; points = entry_of p at at ∷ [] })
    join-gone one two e1 e2 = record {
      strings = subst (IsPermutation (map (string_entry b) (strings_at b p))) entries
          (IsPermutation-map (string_entry b) (strings_at b p) (s ∷ t ∷ []) the-two);
      points = subst (IsPermutation (map point_entry (filter (λ r. r.number == p) b.points))) (one-point b p at row beside.tried.valid is there)
          (IsPermutation-refl (map point_entry (filter (λ r. r.number == p) b.points)));
    }
      where
        entries : string_entry b s ∷ string_entry b t ∷ [] ≡ span_entry m p at one ∷ span_entry m p at two ∷ []
        entries = λ i. (sym (own-entry s) ∙ ap (span_entry m p at) (sym e1)) i ∷ (sym (own-entry t) ∙ ap (span_entry m p at) (sym e2)) i ∷ []

-- beside the map before it, with the strings of the point in any order
pub join-gone_all : (b : Map) (p new : ℕ) (at : Position) (row : PointRow) → IsValid b → point_of b p ≡ Some row → row.position ≡ at → (l : List Entry)
    → IsPermutation (map (span_at b p at) (strings_at b p)) l → AreEntries (gone_by b (Join p new)) (record { strings = l; points = entry_of p at at ∷ [] })
join-gone_all b p new at row v is there l perm = record {
  strings = subst (λ (es : List Entry). IsPermutation es l) (map-same (span_at b p at) (string_entry b) (strings_at b p) (λ r h. λ i. entry_of r.number (end r.from i) (end r.to i))) perm;
  points = subst (IsPermutation (map point_entry (filter (λ r. r.number == p) b.points))) (one-point b p at row v is there)
      (IsPermutation-refl (map point_entry (filter (λ r. r.number == p) b.points)));
}
  where
    end : (q : ℕ) → position_by b p at q ≡ position_of b q
    end q = by-point b b p at q (λ same. ap (position_of b) same ∙ ap placed is ∙ there) (λ off. refl)

-- ---- A move

module _ (m b : Map) (p : ℕ) (x y : ℤ) (beside : IsBeside m b (Move p x y)) (row : PointRow) (is : point_of b p ≡ Some row) where
  abbrev to : Position
  to = record { x = x; y = y }

  abbrev moved_map : Map
  moved_map = after b (Move p x y)

  other-place : is_same_position (position_of b p) to ≡ false
  other-place = not-when _ _ (allowed b (Move p x y) beside.tried.allowed).no_change

  move-is : moved_map ≡ with_point b (record row { position = to })
  unfolding after
  move-is = rw is refl

  move-others : (q : ℕ) → q ≢ p → (position_of m q ≡ position_of b q) × (position_of m q ≡ position_of moved_map q)
  move-others q off =
      either m b moved_map beside.is q (ap (λ (n : Map). position_of n q) move-is ∙ at-others b beside.tried.valid p x y row is other-place q off)

  move-own : position_of moved_map p ≡ to
  move-own = ap (λ (n : Map). position_of n p) move-is ∙ at-new b beside.tried.valid p x y row is other-place

  move-strings : strings_at m p ≡ strings_at b p
  move-strings = elim beside.is [
    | inl e ↦ ap (λ (n : Map). strings_at n p) e
    | inr e ↦ ap (λ (n : Map). strings_at n p) (e ∙ move-is)
  ]

  listed : (t : Map) (at : Position) → ((r : StringRow) → span_at m p at r ≡ string_entry t r) → (l : List Entry) → IsPermutation (map (span_at m p at) (strings_at m p)) l
      → IsPermutation (map (string_entry t) (strings_at b p)) l
  listed t at each l perm = subst (λ (es : List Entry). IsPermutation es l)
      (ap (map (span_at m p at)) move-strings ∙ map-same (span_at m p at) (string_entry t) (strings_at b p) (λ r h. each r)) perm

  pub move-gone : (at : Position) → row.position ≡ at → (l : List Entry) → IsPermutation (map (span_at m p at) (strings_at m p)) l
      → AreEntries (gone_by b (Move p x y)) (record { strings = l; points = entry_of p at at ∷ [] })
  move-gone at there l perm = record {
    strings = listed b at (λ r i. entry_of r.number (end r.from i) (end r.to i)) l perm;
    points = subst (IsPermutation (map point_entry (filter (λ r. r.number == p) b.points))) (one-point b p at row beside.tried.valid is there)
        (IsPermutation-refl (map point_entry (filter (λ r. r.number == p) b.points)));
  }
    where
      end : (q : ℕ) → position_by m p at q ≡ position_of b q
      end q = by-point m b p at q (λ same. ap (position_of b) same ∙ ap placed is ∙ there) (λ off. (move-others q off).0)

  pub move-come : (l : List Entry) → IsPermutation (map (span_at m p to) (strings_at m p)) l
      → AreEntries (come_by b (Move p x y)) (record { strings = l; points = entry_of p to to ∷ [] })
  move-come l perm = record {
    strings = listed moved_map to (λ r i. entry_of r.number (end r.from i) (end r.to i)) l perm;
    points = subst (IsPermutation (come_by b (Move p x y)).points)
        (ap (λ (rows : List PointRow). map point_entry (map (λ (r : PointRow). record r { position = to }) rows)) (picked-alone of_point p row b.points beside.tried.valid.sound.v1.points.distinct is)
        ∙ (λ i. entry_of (found-number of_point p b.points row is i) to to ∷ []))
        (IsPermutation-refl (come_by b (Move p x y)).points);
  }
    where
      end : (q : ℕ) → position_by m p to q ≡ position_of moved_map q
      end q = by-point m moved_map p to q (λ same. ap (position_of moved_map) same ∙ move-own) (λ off. (move-others q off).1)

-- the point that moves is there
pub move-there : (b : Map) (p : ℕ) (x y : ℤ) → IsTried b (Move p x y) → (row : PointRow) × (point_of b p ≡ Some row)
move-there b p x y t = some-from (point_of b p) (there-one b (name.Point p) (allowed b (Move p x y) t.allowed).unknown)

-- ---- Strings alone

-- where no point changes, each lies where it lay
same-positions : (m b a : Map) → (m ≡ b) ⊎ (m ≡ a) → a.points ≡ b.points → (q : ℕ) → (position_of m q ≡ position_of b q) × (position_of m q ≡ position_of a q)
same-positions m b a is points q = either m b a is q (ap placed (ap (row_with of_point q) points))

pub merge-gone : (m b : Map) (kept ended : Face) → IsBeside m b (Merge kept ended) → (spans : List Span) → IsPermutation (map span_of (shared_strings b kept ended)) spans
    → AreEntries (gone_by b (Merge kept ended)) (record { strings = map (λ (s : Span). entry_of s.string (position_of m s.from) (position_of m s.to)) spans; points = [] })
unfolding after
merge-gone m b kept ended beside spans perm = record {
  strings = subst (λ (es : List Entry). IsPermutation es (map entry spans))
      (map-map entry span_of (shared_strings b kept ended) ∙ map-same (λ (r : StringRow). entry (span_of r)) (string_entry b) (shared_strings b kept ended) (λ r h.
      λ i. entry_of r.number ((at r.from).0 i) ((at r.to).0 i)))
      (IsPermutation-map entry (map span_of (shared_strings b kept ended)) spans perm);
  points = IsPermutation-refl [];
}
  where
    entry : Span → Entry
    entry s = entry_of s.string (position_of m s.from) (position_of m s.to)

    points-same : (ended : Face) → (after b (Merge kept ended)).points ≡ b.points
    points-same Outside = refl
    points-same (Parcel n) = refl

    at : (q : ℕ) → (position_of m q ≡ position_of b q) × (position_of m q ≡ position_of (after b (Merge kept ended)) q)
    at = same-positions m b (after b (Merge kept ended)) beside.is (points-same ended)

-- the sources of the strings along a chain are in no entry
along-sources : (t : Map) (one other : List ℕ) (strings chain : List ℕ) → map (string_entry t) (strings_along one strings chain) ≡ map (string_entry t) (strings_along other strings chain)
along-sources t one other [] chain = refl
along-sources t one other (s ∷ strings) [] = refl
along-sources t one other (s ∷ strings) (a ∷ []) = refl
along-sources t one other (s ∷ strings) (a ∷ b ∷ chain) = ap (λ (l : List Entry). entry_of s (position_of t a) (position_of t b) ∷ l) (along-sources t one other strings (b ∷ chain))

-- and of a chain with more points than strings the rest doesn't count
along-more : (sources strings chain more : List ℕ) → length strings + 1 ≡ length chain → strings_along sources strings (chain ++ more) ≡ strings_along sources strings chain
along-more sources [] chain more fits = refl
along-more sources (s ∷ strings) [] more fits = absurd (omega (arith, fits))
along-more sources (s ∷ strings) (a ∷ []) more fits = absurd (omega (arith, fits))
along-more sources (s ∷ strings) (a ∷ b ∷ chain) more fits = ap (λ (l : List StringRow). record { number = s; from = a; to = b; sources = sources } ∷ l) (along-more sources strings (b ∷ chain) more (omega (arith, fits)))

-- one string more along a chain
pub along-push : (sources strings points : List ℕ) (i n from to : ℕ) → slice_get strings i ≡ Some n → slice_get points i ≡ Some from → slice_get points (suc i) ≡ Some to
    → strings_along sources (take (suc i) strings) points ≡ strings_along sources (take i strings) points ++ record { number = n; from = from; to = to; sources = sources } ∷ []
along-push sources [] points i n from to at at_from at_to = cc
along-push sources (s ∷ strings) [] i n from to at at_from at_to = cc
along-push sources (s ∷ strings) (a ∷ []) zero n from to at at_from at_to = cc
along-push sources (s ∷ strings) (a ∷ []) (suc i) n from to at at_from at_to = cc
along-push sources (s ∷ strings) (a ∷ b ∷ points) zero n from to at at_from at_to =
    let number : s ≡ n = cc in
    let first : a ≡ from = cc in
    let second : b ≡ to = cc in
    λ i. record { number = number i; from = first i; to = second i; sources = sources } ∷ []
along-push sources (s ∷ strings) (a ∷ b ∷ points) (suc i) n from to at at_from at_to =
    ap (λ (l : List StringRow). record { number = s; from = a; to = b; sources = sources } ∷ l) (along-push sources strings (b ∷ points) i n from to at at_from at_to)

pub starts-at : (chain : List ℕ) (p : ℕ) → slice_get chain 0 ≡ Some p → start_of chain ≡ p
starts-at [] p at = cc
starts-at (a ∷ chain) p at = cc

-- the points of a closed chain: the chain's, and the first once more
pub closed-at : (chain more : List ℕ) (i p : ℕ) → slice_get chain i ≡ Some p → slice_get (chain ++ more) i ≡ Some p
closed-at [] more i p at = cc
closed-at (a ∷ chain) more zero p at = at
closed-at (a ∷ chain) more (suc i) p at = closed-at chain more i p at

pub closed-last : (chain : List ℕ) (p i : ℕ) → i ≡ length chain → slice_get (chain ++ p ∷ []) i ≡ Some p
closed-last [] p zero is = refl
closed-last [] p (suc i) is = absurd (omega (arith, is))
closed-last (a ∷ chain) p zero is = absurd (omega (arith, is))
closed-last (a ∷ chain) p (suc i) is = closed-last chain p i (omega (arith, is))

module _ (m b : Map) (face : Face) (chain strings : List ℕ) (parcel : ℕ) (label : List ℕ) (source : ℕ) (l : Listed)
    (is : l.strings ≡ map (string_entry m) (strings_along [] strings (chain ++ start_of chain ∷ []))) (none : l.points ≡ []) where
  moved-to : (a : Map) → (m ≡ b) ⊎ (m ≡ a) → a.points ≡ b.points → map (string_entry a) (strings_along (source ∷ []) strings (chain ++ start_of chain ∷ [])) ≡ l.strings
  moved-to a beside points =
      along-sources a (source ∷ []) [] strings (chain ++ start_of chain ∷ [])
      ∙ map-same (string_entry a) (string_entry m) (strings_along [] strings (chain ++ start_of chain ∷ [])) (λ r h.
      λ i. entry_of r.number (sym (same-positions m b a beside points r.from).1 i) (sym (same-positions m b a beside points r.to).1 i))
      ∙ sym is

  pub enclose-come : IsBeside m b (Enclose face chain strings parcel label source) → AreEntries (come_by b (Enclose face chain strings parcel label source)) l
  unfolding after
  enclose-come beside = same-entries (come_by b (Enclose face chain strings parcel label source)) l (moved-to (after b (Enclose face chain strings parcel label source)) beside.is points-same) (sym none)
    where
      points-same : (after b (Enclose face chain strings parcel label source)).points ≡ b.points
      points-same = refl

  pub divide-come : IsBeside m b (Divide face chain strings parcel label source) → AreEntries (come_by b (Divide face chain strings parcel label source)) l
  unfolding after
  divide-come beside = same-entries (come_by b e) l
      (ap (map (string_entry (after b e))) (sym (along-more (source ∷ []) strings chain (start_of chain ∷ []) can.as_many)) ∙ moved-to (after b e) beside.is points-same) (sym none)
    where
      e : Edit
      e = Divide face chain strings parcel label source

      can : CanDivide b face chain strings parcel label source
      can = can-divide b face chain strings parcel label source beside.tried.given (allowed b e beside.tried.allowed)

      points-same : (after b (Divide face chain strings parcel label source)).points ≡ b.points
      points-same = refl

-- ---- In some order

-- what goes and comes may be listed in any order
pub exchange-listed : (old new : Map) (gone come went came : Listed) → IsExchange old gone come new → AreEntries gone went → AreEntries come came → IsExchange old went came new
exchange-listed old new gone come went came x g c = record {
  strings_gone = listed (string_entries old) (string_entries new) gone.strings went.strings g.strings x.strings_gone;
  points_gone = listed (point_entries old) (point_entries new) gone.points went.points g.points x.points_gone;
  strings_come = listed (string_entries new) (string_entries old) come.strings came.strings c.strings x.strings_come;
  points_come = listed (point_entries new) (point_entries old) come.points came.points c.points x.points_come;
}
  where
    listed : (these those only others : List Entry) → IsPermutation only others → AreOnlyOf these those only → AreOnlyOf these those others
    listed these those only others perm is = record {
      is = λ e. (
        (λ h. (is.is e).0 (Contains-permutation others only e (IsPermutation-sym only others perm) h)),
        (λ h. Contains-permutation only others e perm ((is.is e).1 h)),
      );
      once = AllPairs-from_IsDistinct decides others (IsDistinct-IsPermutation is_same_entry flips only others perm (IsDistinct-from_AllPairs decides only is.once));
    }
      where
        decides : (a b : Entry) → Decides (is_same_entry a b) (a ≡ b)
        decides a b = (same_entry a b, λ same. subst (λ (d : Entry). is_same_entry a d ≡ true) same (is_itself a))

        flips : (a b : Entry) → is_same_entry a b ≡ is_same_entry b a
        flips a b = same_from_decides (is_same_entry a b) (is_same_entry b a) (decides a b) ((λ told. sym (same_entry b a told)), (λ same. (decides b a).1 (sym same)))
