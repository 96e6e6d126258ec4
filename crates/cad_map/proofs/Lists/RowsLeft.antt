-- Rows of different numbers, where one is left out or one more is put.
use Rattle.std.proofs.Common.{◌≡◌, ◌≢◌, ℕ, ◌+◌, ◌≤◌, refl, sym, ap, subst, List, [], ◌∷◌, ◌++◌, length, map, filter, Bool, true, false, nat_eq, Some, None, arith}
use Rattle.std.specs.Prelude.{sum_by}
use Rattle.std.specs.List.{AllByRecursion}
use Rattle.std.proofs.lemmas.Bool.{eqb-true, false_from_ne_true}
use Rattle.std.proofs.lemmas.List.Sums.{sum_by-cons}
use Rattle.numbered_rows.specs.Rows.{row_with, without_row}
use Rattle.cad_map.specs.Valid.{EachPair}

module _ {R : Type 0} (number : R → ℕ) where
  without-none : (n : ℕ) (rows : List R) → AllByRecursion (λ k. n ≢ k) (map number rows) → without_row number n rows ≡ rows
  without-none n [] all = refl
  without-none n (r ∷ rows) all = rw (false_from_ne_true (nat_eq (number r) n) (λ h. all.0 (sym (eqb-true (number r) n h)))) (ap (λ (rs : List R). r ∷ rs) (without-none n rows all.1))

  -- a sum over rows of different numbers: over one of them, and over those without it
  pub sum-without : (f : R → ℕ) (n : ℕ) (row : R) (rows : List R) → EachPair (λ a b. a ≢ b) (map number rows) → row_with number n rows ≡ Some row → sum_by f rows ≡ f row + sum_by f (without_row number n rows)
  sum-without f n row [] each found = cc
  sum-without f n row (r ∷ rows) each found = by (nat_eq (number r) n) refl (λ h. sum-without f n row rows each.1 h)
    where
      by : (b : Bool) → nat_eq (number r) n ≡ b → (row_with number n rows ≡ Some row → sum_by f rows ≡ f row + sum_by f (without_row number n rows)) → sum_by f (r ∷ rows) ≡ f row + sum_by f (without_row number n (r ∷ rows))
      by true is again =
          let here : Some r ≡ Some row = rw is at found in
          let same : r ≡ row = cc in
          let e = sum_by-cons f r rows in
          let k = ap (λ (rs : List R). sum_by f rs) (without-none n rows (subst (λ (k : ℕ). AllByRecursion (λ a. k ≢ a) (map number rows)) (eqb-true (number r) n is) each.0)) in
          let g = ap f same in
          rw is (omega (arith, e, k, g))
      by false is again =
          let e = sum_by-cons f r rows in
          let rest = again (rw is at found) in
          let g = sum_by-cons f r (without_row number n rows) in
          rw is (omega (arith, e, rest, g))

  pub length-without : (n : ℕ) (row : R) (rows : List R) → row_with number n rows ≡ Some row → length (without_row number n rows) + 1 ≤ length rows
  length-without n row [] found = cc
  length-without n row (r ∷ rows) found = by (nat_eq (number r) n) refl (λ h. length-without n row rows h)
    where
      less : (rs : List R) → length (without_row number n rs) ≤ length rs
      less [] = omega arith
      less (q ∷ rs) = one (nat_eq (number q) n) refl (less rs)
        where
          one : (b : Bool) → nat_eq (number q) n ≡ b → length (without_row number n rs) ≤ length rs → length (without_row number n (q ∷ rs)) ≤ length (q ∷ rs)
          one true is rest = rw is (omega (arith, rest))
          one false is rest = rw is (omega (arith, rest))

      by : (b : Bool) → nat_eq (number r) n ≡ b → (row_with number n rows ≡ Some row → length (without_row number n rows) + 1 ≤ length rows) → length (without_row number n (r ∷ rows)) + 1 ≤ length (r ∷ rows)
      by true is again = let e = less rows in rw is (omega (arith, e))
      by false is again = let e = again (rw is at found) in rw is (omega (arith, e))

  -- where no row has the number, none has it after a row of another number
  pub none-push : (n : ℕ) (rows : List R) (row : R) → number row ≢ n → row_with number n rows ≡ None → row_with number n (rows ++ row ∷ []) ≡ None
  none-push n [] row other none = rw (false_from_ne_true (nat_eq (number row) n) (λ h. other (eqb-true (number row) n h))) refl
  none-push n (r ∷ rows) row other none = by (nat_eq (number r) n) refl (λ h. none-push n rows row other h)
    where
      by : (b : Bool) → nat_eq (number r) n ≡ b → (row_with number n rows ≡ None → row_with number n (rows ++ row ∷ []) ≡ None) → row_with number n ((r ∷ rows) ++ row ∷ []) ≡ None
      by true is again = let some : Some r ≡ None = rw is at none in cc
      by false is again = rw is (again (rw is at none))
