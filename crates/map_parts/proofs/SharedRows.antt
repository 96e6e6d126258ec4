-- Strings that are left out of rows by their numbers, in whatever order.
use Rattle.std.proofs.Common.{◌≡◌, ◌≢◌, inl, inr, ℕ, Bool, true, false, not, ◌||◌, nat_eq, arith, true≢false, refl, sym, ap, subst, ◌∙◌, List, [], ◌∷◌, map, filter, None}
use Rattle.std.specs.Prelude.{◌↔◌, IsTrue, is_some, IsSome, IsPermutation}
use Rattle.std.specs.List.{AllByRecursion, Contains, list_any}
use Rattle.std.proofs.lemmas.Bool.{eqb-true, eq-eqb}
use Rattle.std.proofs.lemmas.Cmp.{nat_eq_equiv}
use Rattle.std.proofs.lemmas.List.Sorted.{IsPermutation-sym, Contains-permutation}
use Rattle.std.proofs.lemmas.Option.{same_Some}
use Rattle.cad_rows.specs.declared.rows.StringRow.{StringRow}
use Rattle.cad_map.specs.Map.{Map, string_of}
use Rattle.numbered_rows.specs.Rows.{row_with, without_row}
use Rattle.cad_map.specs.Valid.{EachPair}
use Rattle.cad_map.proofs.CallerLemmas.{All-from_each, All-at_each, Contains-cases, Contains-first, Contains-later, Contains-map, map-Contains, Contains-filter, filter-Contains, list_any-Contains, row-found, pairs-IsPermutation}
use Rattle.half_table.specs.declared.half.Half.{Half}
use Rattle.half_paths.specs.Loose.{numbers_of}
use Rattle.half_paths.specs.Path.{strings_of}
use Rattle.map_parts.specs.Paths.{HasStringsMore}
use Rattle.map_parts.specs.StringRows.{without_rows}
use Rattle.map_parts.proofs.AddedStrings.{of-none}
use Rattle.map_parts.proofs.PartsRings.{row-there}
use Rattle.map_parts.proofs.StringRowsPut.{each-left}
use Rattle.numbered_rows.proofs.Removed.{none-taken, kept-without}

abbrev number : StringRow → ℕ
number r = r.number

nat_same : (a b : ℕ) → IsTrue (nat_eq a b) ↔ (a ≡ b)
nat_same a b = ((λ is. eqb-true a b is), (λ e. eq-eqb a b e))

-- ---- What is found where some are out

none-still : (ns : List ℕ) (n : ℕ) (rows : List StringRow) → row_with number n rows ≡ None → row_with number n (without_rows ns rows) ≡ None
none-still [] n rows none = none
none-still (k ∷ ns) n rows none = none-still ns n (without_row number k rows) (by (nat_eq k n) refl)
  where
    by : (b : Bool) → nat_eq k n ≡ b → row_with number n (without_row number k rows) ≡ None
    by true is = subst (λ (j : ℕ). row_with number n (without_row number j rows) ≡ None) (sym (eqb-true k n is)) (none-taken number n rows)
    by false is = kept-without number n k rows (λ same. true≢false (sym (eq-eqb k n same) ∙ is)) ∙ none

-- one that is out isn't found
pub none-out : (ns : List ℕ) (n : ℕ) (rows : List StringRow) → Contains ns n → row_with number n (without_rows ns rows) ≡ None
none-out [] n rows among = let low = among.1 in absurd (omega arith)
none-out (k ∷ ns) n rows among = elim (Contains-cases k ns n among) [
  | inl same ↦
      none-still ns n (without_row number k rows)
      (subst (λ (j : ℕ). row_with number j (without_row number k rows) ≡ None) same (none-taken number k rows))
  | inr later ↦ none-out ns n (without_row number k rows) later
]

-- and any other is
pub found-still : (ns : List ℕ) (n : ℕ) (rows : List StringRow) → list_any (nat_eq n) ns ≡ false → row_with number n (without_rows ns rows) ≡ row_with number n rows
found-still [] n rows away = refl
found-still (k ∷ ns) n rows away = by (nat_eq n k) refl away (found-still ns n (without_row number k rows))
  where
    by : (b : Bool) → nat_eq n k ≡ b → (nat_eq n k || list_any (nat_eq n) ns) ≡ false
        → (list_any (nat_eq n) ns ≡ false → row_with number n (without_rows ns (without_row number k rows)) ≡ row_with number n (without_row number k rows))
        → row_with number n (without_rows (k ∷ ns) rows) ≡ row_with number n rows
    by true is none later = absurd (true≢false (rw is at none))
    by false is none later =
        let rest : list_any (nat_eq n) ns ≡ false = rw is at none in
        later rest
        ∙ kept-without number n k rows (λ same. true≢false (sym (eq-eqb n k (sym same)) ∙ is))

pub any-there : (n : ℕ) (ns : List ℕ) → list_any (nat_eq n) ns ≡ true → Contains ns n
any-there n [] any = absurd (true≢false (sym any))
any-there n (k ∷ ns) any = by (nat_eq n k) refl any (any-there n ns)
  where
    by : (b : Bool) → nat_eq n k ≡ b → (nat_eq n k || list_any (nat_eq n) ns) ≡ true → (list_any (nat_eq n) ns ≡ true → Contains ns n) → Contains (k ∷ ns) n
    by true is some later = subst (Contains (k ∷ ns)) (sym (eqb-true n k is)) (Contains-first k ns)
    by false is some later = Contains-later k ns n (later (rw is at some))

-- the rows without some strings have those besides, where each of them was there
module _ (m now : Map) (path : List Half) (there : AllByRecursion (λ n. IsSome (string_of m n)) (strings_of path))
    (are : now.strings ≡ without_rows (strings_of path) m.strings) where
  out : AllByRecursion (λ n. string_of now n ≡ None) (strings_of path)
  out =
      All-from_each (λ n. string_of now n ≡ None) (strings_of path)
      (λ n among. ap (row_with number n) are ∙ none-out (strings_of path) n m.strings among)

  pub strings-gone : HasStringsMore now m path
  strings-gone = record {
    all = λ h. by h (list_any (nat_eq h.string) (strings_of path)) refl;
    new = λ h shown. of-none now (strings_of path) out h shown;
  }
    where
      by : (h : Half) (b : Bool) → list_any (nat_eq h.string) (strings_of path) ≡ b
          → is_some (string_of m h.string) ≡ (list_any (nat_eq h.string) (strings_of path) || is_some (string_of now h.string))
      by h true is = rw is (All-at_each (λ n. IsSome (string_of m n)) (strings_of path) h.string there (any-there h.string (strings_of path) is))
      by h false is =
          rw is (ap is_some (sym (ap (row_with number h.string) are ∙ found-still (strings_of path) h.string m.strings is)))

-- ---- Those that pass a test are out

first-out : (ns : List ℕ) (r : StringRow) (rows : List StringRow) → list_any (nat_eq r.number) ns ≡ true → without_rows ns (r ∷ rows) ≡ without_rows ns rows
first-out [] r rows any = absurd (true≢false (sym any))
first-out (k ∷ ns) r rows any = by (nat_eq r.number k) refl any (first-out ns r (without_row number k rows))
  where
    by : (b : Bool) → nat_eq r.number k ≡ b → (nat_eq r.number k || list_any (nat_eq r.number) ns) ≡ true
        → (list_any (nat_eq r.number) ns ≡ true → without_rows ns (r ∷ without_row number k rows) ≡ without_rows ns (without_row number k rows))
        → without_rows (k ∷ ns) (r ∷ rows) ≡ without_rows (k ∷ ns) rows
    by true is some later = rw is refl
    by false is some later = rw is (later (rw is at some))

first-left : (ns : List ℕ) (r : StringRow) (rows : List StringRow) → list_any (nat_eq r.number) ns ≡ false → without_rows ns (r ∷ rows) ≡ r ∷ without_rows ns rows
first-left [] r rows none = refl
first-left (k ∷ ns) r rows none = by (nat_eq r.number k) refl none (first-left ns r (without_row number k rows))
  where
    by : (b : Bool) → nat_eq r.number k ≡ b → (nat_eq r.number k || list_any (nat_eq r.number) ns) ≡ false
        → (list_any (nat_eq r.number) ns ≡ false → without_rows ns (r ∷ without_row number k rows) ≡ r ∷ without_rows ns (without_row number k rows))
        → without_rows (k ∷ ns) (r ∷ rows) ≡ r ∷ without_rows (k ∷ ns) rows
    by true is away later = absurd (true≢false (rw is at away))
    by false is away later = rw is (later (rw is at away))

tested-out : (ns : List ℕ) (test : StringRow → Bool) (rows : List StringRow) → ((r : StringRow) → Contains rows r → list_any (nat_eq r.number) ns ≡ test r)
    → without_rows ns rows ≡ filter (λ r. not (test r)) rows
tested-out ns test [] each = nothing ns
  where
    nothing : (ns : List ℕ) → without_rows ns [] ≡ []
    nothing [] = refl
    nothing (k ∷ ns) = nothing ns
tested-out ns test (r ∷ rows) each = by (test r) (each r (Contains-first r rows)) refl (tested-out ns test rows (λ q h. each q (Contains-later r rows q h)))
  where
    by : (b : Bool) → list_any (nat_eq r.number) ns ≡ test r → test r ≡ b → without_rows ns rows ≡ filter (λ r. not (test r)) rows
        → without_rows ns (r ∷ rows) ≡ filter (λ r. not (test r)) (r ∷ rows)
    by true e is rest = rw is (first-out ns r rows (e ∙ is) ∙ rest)
    by false e is rest = rw is (first-left ns r rows (e ∙ is) ∙ ap (λ (l : List StringRow). r ∷ l) rest)

-- two rows with one number are one
pub one-row : (rows : List StringRow) → EachPair (λ a b. a ≢ b) (map number rows) → (r s : StringRow) → Contains rows r → Contains rows s → r.number ≡ s.number → r ≡ s
one-row rows each r s r_there s_there same =
    same_Some r s (sym (row-found rows r each r_there) ∙ ap (λ (n : ℕ). row_with number n rows) same ∙ row-found rows s each s_there)

module _ (rows : List StringRow) (each : EachPair (λ a b. a ≢ b) (map number rows)) (test : StringRow → Bool) (ns : List ℕ)
    (are : IsPermutation (numbers_of (filter test rows)) ns) where
  -- a row is among those with these numbers where it passes
  pub named-passes : (r : StringRow) → Contains rows r → list_any (nat_eq r.number) ns ≡ test r
  named-passes r there = by (test r) (list_any (nat_eq r.number) ns) refl refl
    where
      by : (t b : Bool) → test r ≡ t → list_any (nat_eq r.number) ns ≡ b → b ≡ t
      by true true passes any = refl
      by false false passes any = refl
      by true false passes any =
          let among = Contains-permutation (numbers_of (filter test rows)) ns r.number are (Contains-map number (filter test rows) r (Contains-filter test rows r there passes)) in
          sym any ∙ list_any-Contains (nat_eq r.number) ns r.number among (nat_eq_equiv.refl r.number)
      by false true passes any =
          let among = Contains-permutation ns (numbers_of (filter test rows)) r.number (IsPermutation-sym (numbers_of (filter test rows)) ns are) (any-there r.number ns any) in
          let it = map-Contains number (filter test rows) r.number among in
          let s = filter-Contains test rows it.0 it.1 in
          let same = one-row rows each it.0 r s.0 there it.2 in
          absurd (true≢false (sym s.1 ∙ ap test same ∙ passes))

  -- the rows without those that pass
  pub passed-out : without_rows ns rows ≡ filter (λ r. not (test r)) rows
  passed-out = tested-out ns test rows named-passes

  -- each of these numbers is that of a row
  pub named-there : AllByRecursion (λ n. IsSome (row_with number n rows)) ns
  named-there =
      All-from_each (λ n. IsSome (row_with number n rows)) ns (λ n among.
      let it = map-Contains number (filter test rows) n (Contains-permutation ns (numbers_of (filter test rows)) n (IsPermutation-sym (numbers_of (filter test rows)) ns are) among) in
      subst (λ (k : ℕ). IsSome (row_with number k rows)) it.2 (row-there rows it.0 (filter-Contains test rows it.0 it.1).0))

  pub named-differ : EachPair (λ a b. a ≢ b) ns
  named-differ = pairs-IsPermutation nat_eq nat_same (numbers_of (filter test rows)) ns are (each-left number test rows each)
