-- Strings put one after another, and strings taken out by their numbers.
use Rattle.std.proofs.Common.{◌≡◌, ◌≢◌, ℕ, zero, suc, ◌+◌, ◌<◌, refl, sym, ap, subst, ◌∙◌, List, [], ◌∷◌, ◌++◌, length, map, filter, take, drop, fold, slice_get, slice_index_or, Some, None, Bool, true, false, not, nat_eq, add-one, arith}
use Rattle.std.specs.List.{AllByRecursion}
use Rattle.std.proofs.lemmas.Bool.{eqb-true, false_from_ne_true}
use Rattle.std.proofs.lemmas.Cmp.{nat_eq_equiv}
use Rattle.cad_rows.specs.declared.rows.StringRow.{StringRow}
use Rattle.cad_map.specs.Map.{Map, string_of}
use Rattle.numbered_rows.specs.Rows.{row_with, without_row}
use Rattle.cad_map.specs.Valid.{EachPair}
use Rattle.cad_map.proofs.CallerLemmas.{none-push}

-- what is left from a place on: the row there, and those behind it
pub drop-next : {X : Type 0} (xs : List X) (i : ℕ) (x : X) → i < length xs → slice_index_or xs i x ≡ x → drop i xs ≡ x ∷ drop (i + 1) xs
drop-next [] i x low at = absurd (omega arith)
drop-next (y ∷ xs) zero x low at = ap (λ (z : _). z ∷ xs) at
drop-next (y ∷ xs) (suc i) x low at = rw (add-one (suc i)) (drop-next xs i x (omega arith) at ∙ ap (λ (n : ℕ). x ∷ drop n xs) (add-one i))

pub take-next : {X : Type 0} (xs : List X) (i : ℕ) (x : X) → i < length xs → slice_index_or xs i x ≡ x → take (i + 1) xs ≡ take i xs ++ x ∷ []
take-next [] i x low at = absurd (omega arith)
take-next (y ∷ xs) zero x low at = ap (λ (z : _). z ∷ []) at
take-next (y ∷ xs) (suc i) x low at = rw (add-one (suc i)) (ap (λ (l : List _). y ∷ l) (ap (λ (n : ℕ). take n xs) (sym (add-one i)) ∙ take-next xs i x (omega arith) at))

pub take-found : {X : Type 0} (xs : List X) (i : ℕ) (x : X) → slice_get xs i ≡ Some x → take (i + 1) xs ≡ take i xs ++ x ∷ []
take-found [] i x at = cc
take-found (y ∷ xs) zero x at = let e : y ≡ x = cc in ap (λ (z : _). z ∷ []) e
take-found (y ∷ xs) (suc i) x at = rw (add-one (suc i)) (ap (λ (l : List _). y ∷ l) (ap (λ (n : ℕ). take n xs) (sym (add-one i)) ∙ take-found xs i x at))

abbrev number : StringRow → ℕ
number r = r.number

-- the others' numbers are still free after one row is put
pub still-free : (strings : List StringRow) (row : StringRow) (rest : List StringRow) → AllByRecursion (λ b. row.number ≢ b) (map number rest) → AllByRecursion (λ (r : StringRow). row_with number r.number strings ≡ None) rest
    → AllByRecursion (λ (r : StringRow). row_with number r.number (strings ++ row ∷ []) ≡ None) rest
still-free strings row [] differ free = tt
still-free strings row (r ∷ rest) differ free = (none-push number r.number strings row differ.0 free.0, still-free strings row rest differ.1 free.1)

-- rows whose numbers are these are free where these are
pub free-numbers : (m : Map) (rows : List StringRow) (numbers : List ℕ) → map number rows ≡ numbers → AllByRecursion (λ s. string_of m s ≡ None) numbers → AllByRecursion (λ (r : StringRow). string_of m r.number ≡ None) rows
free-numbers m rows numbers is free = each rows (subst (AllByRecursion (λ s. string_of m s ≡ None)) (sym is) free)
  where
    each : (rows : List StringRow) → AllByRecursion (λ s. string_of m s ≡ None) (map number rows) → AllByRecursion (λ (r : StringRow). string_of m r.number ≡ None) rows
    each [] all = tt
    each (r ∷ rows) all = (all.0, each rows all.1)

-- ---- Strings taken out by their numbers

-- the numbers of rows, taken out one after another
abbrev pub taken_out : List StringRow → List ℕ → List StringRow
taken_out rows numbers = fold (λ rows no. without_row (λ (r : StringRow). r.number) no rows) rows numbers

-- a first row that has none of the numbers stays first
taken-later : (row : StringRow) (rows : List StringRow) (numbers : List ℕ) → AllByRecursion (λ k. row.number ≢ k) numbers → taken_out (row ∷ rows) numbers ≡ row ∷ taken_out rows numbers
taken-later row rows [] all = refl
taken-later row rows (k ∷ numbers) all =
    ap (λ (l : List StringRow). taken_out l numbers) (step (nat_eq row.number k) refl) ∙ taken-later row (without_row number k rows) numbers all.1
  where
    step : (b : Bool) → nat_eq row.number k ≡ b → without_row number k (row ∷ rows) ≡ row ∷ without_row number k rows
    step true is = absurd (all.0 (eqb-true row.number k is))
    step false is = rw is refl

-- one that none has is taken out of nothing
without-other : (k : ℕ) (rows : List StringRow) → AllByRecursion (λ b. k ≢ b) (map number rows) → without_row number k rows ≡ rows
without-other k [] all = refl
without-other k (r ∷ rows) all = rw (false_from_ne_true (nat_eq r.number k) (λ h. all.0 (sym (eqb-true r.number k h)))) (ap (λ (l : List StringRow). r ∷ l) (without-other k rows all.1))

differ-filtered : (k : ℕ) (test : StringRow → Bool) (rows : List StringRow) → AllByRecursion (λ b. k ≢ b) (map number rows) → AllByRecursion (λ b. k ≢ b) (map number (filter test rows))
differ-filtered k test [] all = tt
differ-filtered k test (r ∷ rows) all = by (test r) refl (differ-filtered k test rows all.1)
  where
    by : (b : Bool) → test r ≡ b → AllByRecursion (λ b. k ≢ b) (map number (filter test rows)) → AllByRecursion (λ b. k ≢ b) (map number (filter test (r ∷ rows)))
    by true is rest = rw is (all.0, rest)
    by false is rest = rw is rest

-- the rows that pass a test, taken out by their numbers, leave those that don't
pub taken-filtered : (test : StringRow → Bool) (rows : List StringRow) → EachPair (λ a b. a ≢ b) (map number rows) → taken_out rows (map number (filter test rows)) ≡ filter (λ r. not (test r)) rows
taken-filtered test [] each = refl
taken-filtered test (r ∷ rows) each = by (test r) refl (taken-filtered test rows each.1)
  where
    by : (b : Bool) → test r ≡ b → taken_out rows (map number (filter test rows)) ≡ filter (λ r. not (test r)) rows → taken_out (r ∷ rows) (map number (filter test (r ∷ rows))) ≡ filter (λ r. not (test r)) (r ∷ rows)
    by false is rest = rw is (taken-later r rows (map number (filter test rows)) (differ-filtered r.number test rows each.0) ∙ ap (λ (l : List StringRow). r ∷ l) rest)
    by true is rest =
        rw is (ap (λ (l : List StringRow). taken_out l (map number (filter test rows))) (rw (nat_eq_equiv.refl r.number) (without-other r.number rows each.0)) ∙ rest)
