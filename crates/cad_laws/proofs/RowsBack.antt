-- Rows that are put back, or changed and changed back, are those that were there.
use Rattle.std.proofs.Common.{◌≡◌, ◌≢◌, ℕ, zero, suc, List, [], ◌∷◌, ◌++◌, Bool, true, false, not, map, filter, true≢false, nat_eq, ◌==◌, refl, sym, ap, ◌∙◌, subst, Some, None, is_some, slice_get, insert, length, ◌≤◌, arith}
use Rattle.std.specs.Prelude.{if◌then◌else◌}
use Rattle.std.specs.List.{AllByRecursion, list_any}
use Rattle.std.proofs.lemmas.Bool.{eqb-true, eq-eqb, false_from_ne_true}
use Rattle.numbered_rows.specs.Rows.{row_with, without_row, with_row}
use Rattle.cad_map.specs.Valid.{EachPair}
use Rattle.numbered_rows.proofs.Removed.{others-from_none, with-absent, none-taken, insert-found}

-- ---- A number in a list of different numbers

module _ (n : ℕ) where
  -- nothing is left out where it isn't there
  pub filter-absent : (ns : List ℕ) → AllByRecursion (λ k. k ≢ n) ns → filter (λ k. not (k == n)) ns ≡ ns
  filter-absent [] all = refl
  filter-absent (k ∷ ns) all =
      rw (false_from_ne_true (nat_eq k n) (λ h. all.0 (eqb-true k n h)))
      (ap (λ (l : List ℕ). k ∷ l) (filter-absent ns all.1))

  -- one that isn't there, put last and left out again
  pub filter-push : (ns : List ℕ) → AllByRecursion (λ k. k ≢ n) ns → filter (λ k. not (k == n)) (ns ++ n ∷ []) ≡ ns
  filter-push [] all = rw (eq-eqb n n refl) refl
  filter-push (k ∷ ns) all =
      rw (false_from_ne_true (nat_eq k n) (λ h. all.0 (eqb-true k n h)))
      (ap (λ (l : List ℕ). k ∷ l) (filter-push ns all.1))

-- no number of a list is this one
pub none-any : (n : ℕ) (ns : List ℕ) → list_any (λ k. k == n) ns ≡ false → AllByRecursion (λ k. k ≢ n) ns
none-any n [] none = tt
none-any n (k ∷ ns) none = by (nat_eq k n) refl none (λ h. none-any n ns h)
  where
    by : (b : Bool) → nat_eq k n ≡ b → list_any (λ k. k == n) (k ∷ ns) ≡ false
        → (list_any (λ k. k == n) ns ≡ false → AllByRecursion (λ k. k ≢ n) ns)
        → AllByRecursion (λ k. k ≢ n) (k ∷ ns)
    by true is none again = absurd (true≢false (sym (rw is refl) ∙ none))
    by false is none again = ((λ same. true≢false (sym (eq-eqb k n same) ∙ is)), again (rw is at none))

turned : (k : ℕ) (ns : List ℕ) → AllByRecursion (λ m. k ≢ m) ns → AllByRecursion (λ m. m ≢ k) ns
turned k [] all = tt
turned k (m ∷ ns) all = ((λ same. all.0 (sym same)), turned k ns all.1)

-- ---- Rows of different numbers

module _ {R : Type 0} (number : R → ℕ) where
  without-absent : (n : ℕ) (rows : List R) → AllByRecursion (λ k. k ≢ n) (map number rows) → without_row number n rows ≡ rows
  without-absent n [] all = refl
  without-absent n (r ∷ rows) all =
      rw (false_from_ne_true (nat_eq (number r) n) (λ h. all.0 (eqb-true (number r) n h)))
      (ap (λ (l : List R). r ∷ l) (without-absent n rows all.1))

  -- a row put last and taken out again
  pub without-push : (rows : List R) (row : R) → row_with number (number row) rows ≡ None → without_row number (number row) (rows ++ row ∷ []) ≡ rows
  without-push rows row none = by rows (others-from_none number (number row) rows none)
    where
      by : (rs : List R) → AllByRecursion (λ k. k ≢ number row) (map number rs) → without_row number (number row) (rs ++ row ∷ []) ≡ rs
      by [] all = rw (eq-eqb (number row) (number row) refl) refl
      by (r ∷ rs) all =
          rw (false_from_ne_true (nat_eq (number r) (number row)) (λ h. all.0 (eqb-true (number r) (number row) h)))
          (ap (λ (l : List R). r ∷ l) (by rs all.1))

  -- a row taken out and put back at its place
  pub insert-without : (rows : List R) (place : ℕ) (row : R) → EachPair (λ a b. a ≢ b) (map number rows) → slice_get rows place ≡ Some row → insert (without_row number (number row) rows) place row ≡ rows
  insert-without [] place row each there = cc
  insert-without (r ∷ rows) zero row each there =
      let same : r ≡ row = cc in
      subst (λ (q : R). insert (without_row number (number q) (r ∷ rows)) zero q ≡ r ∷ rows) same
      (rw (eq-eqb (number r) (number r) refl)
      (ap (λ (l : List R). r ∷ l) (without-absent (number r) rows (turned (number r) (map number rows) each.0))))
  insert-without (r ∷ rows) (suc place) row each there =
      rw (false_from_ne_true (nat_eq (number r) (number row)) (λ h. differs rows place each.0 there (eqb-true (number r) (number row) h)))
      (ap (λ (l : List R). r ∷ l) (insert-without rows place row each.1 there))
    where
      differs : (rs : List R) (i : ℕ) → AllByRecursion (λ m. number r ≢ m) (map number rs) → slice_get rs i ≡ Some row → number r ≢ number row
      differs [] i all at = cc
      differs (q ∷ rs) zero all at = let same : q ≡ row = cc in subst (λ (t : R). number r ≢ number t) same all.0
      differs (q ∷ rs) (suc i) all at = differs rs i all.1 at

  -- a row in the place of another of its number, and that one again
  pub with-again : (new old : R) (rows : List R) → number new ≡ number old → with_row number old (with_row number new rows) ≡ with_row number old rows
  with-again new old [] same = refl
  with-again new old (r ∷ rows) same = by (nat_eq (number r) (number new)) refl (with-again new old rows same)
    where
      by : (a : Bool) → nat_eq (number r) (number new) ≡ a → with_row number old (with_row number new rows) ≡ with_row number old rows
          → with_row number old (with_row number new (r ∷ rows)) ≡ with_row number old (r ∷ rows)
      by true is rest =
          let here : nat_eq (number r) (number old) ≡ true = eq-eqb (number r) (number old) (eqb-true (number r) (number new) is ∙ same) in
          let own : nat_eq (number new) (number old) ≡ true = eq-eqb (number new) (number old) same in
          rw (is, own, here) (ap (λ (l : List R). old ∷ l) rest)
      by false is rest = rw is (ap (λ (l : List R). (if nat_eq (number r) (number old) then old else r) ∷ l) rest)

  -- the row that is there in its own place
  pub with-same : (row : R) (rows : List R) → EachPair (λ a b. a ≢ b) (map number rows) → row_with number (number row) rows ≡ Some row → with_row number row rows ≡ rows
  with-same row [] each found = refl
  with-same row (r ∷ rows) each found = by (nat_eq (number r) (number row)) refl found (λ h. with-same row rows each.1 h)
    where
      by : (a : Bool) → nat_eq (number r) (number row) ≡ a → row_with number (number row) (r ∷ rows) ≡ Some row
          → (row_with number (number row) rows ≡ Some row → with_row number row rows ≡ rows)
          → with_row number row (r ∷ rows) ≡ r ∷ rows
      by true is found again =
          let here : Some r ≡ Some row = rw is at found in
          let same : r ≡ row = cc in
          rw is (λ i. sym same i ∷ with-absent number row rows
          (turned (number row) (map number rows) (subst (λ (q : R). AllByRecursion (λ m. number q ≢ m) (map number rows)) same each.0)) i)
      by false is found again = rw is (ap (λ (l : List R). r ∷ l) (again (rw is at found)))

  -- a row changed is found in its place
  pub found-changed : (new : R) (rows : List R) → is_some (row_with number (number new) rows) ≡ true → row_with number (number new) (with_row number new rows) ≡ Some new
  found-changed new [] found = absurd (true≢false (sym found))
  found-changed new (r ∷ rows) found = by (nat_eq (number r) (number new)) refl (λ h. found-changed new rows h) found
    where
      by : (a : Bool) → nat_eq (number r) (number new) ≡ a
          → (is_some (row_with number (number new) rows) ≡ true → row_with number (number new) (with_row number new rows) ≡ Some new)
          → is_some (row_with number (number new) (r ∷ rows)) ≡ true
          → row_with number (number new) (with_row number new (r ∷ rows)) ≡ Some new
      by true is again h = let own : nat_eq (number new) (number new) ≡ true = eq-eqb (number new) (number new) refl in rw (is, own) refl
      by false is again h = rw is (rw is (again (rw is at h)))

-- the row at a place is found by its number
pub found-at : {R : Type 0} (number : R → ℕ) (rows : List R) (place : ℕ) (row : R) → EachPair (λ a b. a ≢ b) (map number rows) → slice_get rows place ≡ Some row → row_with number (number row) rows ≡ Some row
found-at number rows place row each there =
    ap (row_with number (number row)) (sym (insert-without number rows place row each there))
    ∙ insert-found number (number row) (without_row number (number row) rows) place row refl (none-taken number (number row) rows)
