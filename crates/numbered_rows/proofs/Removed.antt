-- Rows that are removed, and what is found where they were.
use Rattle.std.proofs.Common.{◌≡◌, ◌≢◌, ℕ, zero, suc, List, [], ◌∷◌, ◌++◌, Bool, true, false, cond, not, map, filter, true≢false, nat_eq, ◌==◌, refl, sym, ap, ◌∙◌, subst, Option, Some, None, slice_get, insert, length, ◌≤◌, arith}
use Rattle.std.specs.List.{AllByRecursion}
use Rattle.std.proofs.lemmas.Bool.{eqb-true, eq-eqb, false_from_ne_true}
use Rattle.std.proofs.lemmas.Cmp.{nat_eq_equiv}
use Rattle.numbered_rows.specs.Rows.{row_with, without_row, with_row}

-- an element stands at the place where it was put in only if it isn't past the end
pub placed-within : {X : Type 0} (xs : List X) (place : ℕ) (x : X) → slice_get (insert xs place x) place ≡ Some x → place ≤ length xs
placed-within xs zero x there = omega arith
placed-within [] (suc place) x there = cc
placed-within (y ∷ xs) (suc place) x there = let rest = placed-within xs place x there in omega (arith, rest)

module _ {R : Type 0} (number : R → ℕ) where
  -- where no row has the number, it is none of theirs
  pub others-from_none : (n : ℕ) (rows : List R) → row_with number n rows ≡ None → AllByRecursion (λ k. k ≢ n) (map number rows)
  others-from_none n [] none = tt
  others-from_none n (r ∷ rows) none = by (λ rest. others-from_none n rows rest) (nat_eq (number r) n) refl
    where
      by : (row_with number n rows ≡ None → AllByRecursion (λ k. k ≢ n) (map number rows)) → (b : Bool) → nat_eq (number r) n ≡ b → AllByRecursion (λ k. k ≢ n) (map number (r ∷ rows))
      by again true is = let here : Some r ≡ None = sym (ap (λ (b : Bool). cond b (Some r) (row_with number n rows)) is) ∙ none in cc
      by again false is = (
        (λ same. true≢false (sym (ap (λ (k : ℕ). nat_eq k n) same ∙ nat_eq_equiv.refl n) ∙ is)),
        again (sym (ap (λ (b : Bool). cond b (Some r) (row_with number n rows)) is) ∙ none),
      )

  -- where no row has the number, none has it among fewer rows
  pub none-filter : (test : R → Bool) (n : ℕ) (rows : List R) → row_with number n rows ≡ None → row_with number n (filter test rows) ≡ None
  none-filter test n [] none = refl
  none-filter test n (r ∷ rows) none = by (nat_eq (number r) n) (test r) refl refl (λ h. none-filter test n rows h)
    where
      by : (b t : Bool) → nat_eq (number r) n ≡ b → test r ≡ t → (row_with number n rows ≡ None → row_with number n (filter test rows) ≡ None) → row_with number n (filter test (r ∷ rows)) ≡ None
      by true t is it again = let some : Some r ≡ None = rw is at none in cc
      by false true is it again = rw it (rw is (again (rw is at none)))
      by false false is it again = rw it (again (rw is at none))

  -- a row that is taken out isn't there
  pub none-taken : (n : ℕ) (rows : List R) → row_with number n (without_row number n rows) ≡ None
  none-taken n [] = refl
  none-taken n (r ∷ rows) = by (nat_eq (number r) n) refl (none-taken n rows)
    where
      by : (a : Bool) → nat_eq (number r) n ≡ a → row_with number n (without_row number n rows) ≡ None
          → row_with number n (without_row number n (r ∷ rows)) ≡ None
      by true is rest = rw is rest
      by false is rest = rw is (rw is rest)

  -- a row that is put in is found
  pub insert-found : (n : ℕ) (left : List R) (place : ℕ) (row : R) → number row ≡ n → row_with number n left ≡ None → row_with number n (insert left place row) ≡ Some row
  insert-found n left zero row same none = rw (eq-eqb (number row) n same) refl
  insert-found n [] (suc place) row same none = rw (eq-eqb (number row) n same) refl
  insert-found n (r ∷ left) (suc place) row same none = by (nat_eq (number r) n) refl none (λ h. insert-found n left place row same h)
    where
      by : (a : Bool) → nat_eq (number r) n ≡ a → row_with number n (r ∷ left) ≡ None
          → (row_with number n left ≡ None → row_with number n (insert left place row) ≡ Some row)
          → row_with number n (r ∷ insert left place row) ≡ Some row
      by true is none again = let some : Some r ≡ None = rw is at none in cc
      by false is none again = rw is (again (rw is at none))

  -- nothing changes where no row has the number
  pub with-absent : (new : R) (rows : List R) → AllByRecursion (λ k. k ≢ number new) (map number rows) → with_row number new rows ≡ rows
  with-absent new [] all = refl
  with-absent new (r ∷ rows) all =
      rw (false_from_ne_true (nat_eq (number r) (number new)) (λ h. all.0 (eqb-true (number r) (number new) h)))
      (ap (λ (l : List R). r ∷ l) (with-absent new rows all.1))

  -- another row of its number, put in at the place where one was taken out
  pub insert-with : (left : List R) (place : ℕ) (row new : R) → number new ≡ number row → row_with number (number row) left ≡ None → insert left place new ≡ with_row number new (insert left place row)
  insert-with left place row new same none =
      by left place (subst (λ (n : ℕ). AllByRecursion (λ k. k ≢ n) (map number left)) (sym same) (others-from_none (number row) left none))
    where
      at : nat_eq (number row) (number new) ≡ true
      at = eq-eqb (number row) (number new) (sym same)

      by : (rs : List R) (i : ℕ) → AllByRecursion (λ k. k ≢ number new) (map number rs) → insert rs i new ≡ with_row number new (insert rs i row)
      by rs zero all = rw at (ap (λ (l : List R). new ∷ l) (sym (with-absent new rs all)))
      by [] (suc i) all = rw at refl
      by (r ∷ rs) (suc i) all =
          rw (false_from_ne_true (nat_eq (number r) (number new)) (λ h. all.0 (eqb-true (number r) (number new) h)))
          (ap (λ (l : List R). r ∷ l) (by rs i all.1))

  -- a row of another number is found all the same
  pub kept-without : (n k : ℕ) (rows : List R) → k ≢ n → row_with number n (without_row number k rows) ≡ row_with number n rows
  kept-without n k [] apart = refl
  kept-without n k (r ∷ rows) apart = by (number r == k) (number r == n) refl refl (kept-without n k rows apart)
    where
      by : (s t : Bool) → (number r == k) ≡ s → (number r == n) ≡ t
          → row_with number n (without_row number k rows) ≡ row_with number n rows
          → row_with number n (without_row number k (r ∷ rows)) ≡ row_with number n (r ∷ rows)
      by true true e f rest = absurd (apart (sym (eqb-true (number r) k e) ∙ eqb-true (number r) n f))
      by true false e f rest = rw (e, f) rest
      by false true e f rest = rw (e, f) refl
      by false false e f rest = rw (e, f) rest
