-- Entries of a list, each with its row under the row's number, beside the list of the rows.
use Rattle.std.proofs.Common.{◌≡◌, ℕ, List, [], ◌∷◌, ◌++◌, ◌==◌, Bool, true, false, cond, nat_eq, refl, sym, ap, ◌∙◌, Option, Some, None, zero, suc, take, slice_get, subst, ◌+◌, add-one}
use Rattle.std.specs.Map.{lookup, keys_of, values_of}
use Rattle.std.specs.List.{AllByRecursion, IsDistinct}
use Rattle.std.proofs.lemmas.Cmp.{nat_eq_equiv}
use Rattle.std.proofs.lemmas.Map.Keys.{IsDistinct-tail, IsDistinct-head}
use Rattle.entry_list.specs.Slots.{with_number, without_number}
use Rattle.numbered_rows.specs.Rows.{row_with, without_row, with_row, AreNumbered}

module _ {R : Type 0} (number : R → ℕ) where
  -- a test of an entry's key is one of its row's number, with the sides exchanged
  same_test : (n k : ℕ) (r : R) → k ≡ number r → nat_eq n k ≡ nat_eq (number r) n
  same_test n k r e = nat_eq_equiv.symm n k ∙ ap (λ (m : ℕ). nat_eq m n) e

  -- a look-up by key finds the row with the number
  pub lookup-row : (n : ℕ) (es : List (ℕ × R)) → AreNumbered number es → lookup (nat_eq n) es ≡ row_with number n (values_of es)
  lookup-row n [] h = refl
  lookup-row n (e ∷ es) h =
      ap (λ (b : Bool). cond b (Some e.1) (lookup (nat_eq n) es)) (same_test n e.0 e.1 h.0)
      ∙ ap (λ (o : Option R). cond (nat_eq (number e.1) n) (Some e.1) o) (lookup-row n es h.1)

  pub AreNumbered-push : (es : List (ℕ × R)) (r : R) → AreNumbered number es → AreNumbered number (es ++ (number r, r) ∷ [])
  AreNumbered-push [] r h = (refl, tt)
  AreNumbered-push (e ∷ es) r h = (h.0, AreNumbered-push es r h.1)

  pub values_of-push : (es : List (ℕ × R)) (k : ℕ) (r : R) → values_of (es ++ (k, r) ∷ []) ≡ values_of es ++ r ∷ []
  values_of-push [] k r = refl
  values_of-push (e ∷ es) k r = ap (λ (rs : List R). e.1 ∷ rs) (values_of-push es k r)

  -- the rows without one, and with another in its place
  pub values-without : (n : ℕ) (es : List (ℕ × R)) → AreNumbered number es
      → values_of (without_number n es) ≡ without_row number n (values_of es)
  values-without n [] h = refl
  values-without n (e ∷ es) h = by (e.0 == n) refl (values-without n es h.1)
    where
      by : (t : Bool) → (e.0 == n) ≡ t → values_of (without_number n es) ≡ without_row number n (values_of es)
          → values_of (without_number n (e ∷ es)) ≡ without_row number n (values_of (e ∷ es))
      by true is rest = let own : (number e.1 == n) ≡ true = ap (λ (k : ℕ). k == n) (sym h.0) ∙ is in rw (is, own) rest
      by false is rest = let own : (number e.1 == n) ≡ false = ap (λ (k : ℕ). k == n) (sym h.0) ∙ is in rw (is, own) (ap (λ (rs : List R). e.1 ∷ rs) rest)

  pub values-with : (row : R) (es : List (ℕ × R)) → AreNumbered number es
      → values_of (with_number (number row) row es) ≡ with_row number row (values_of es)
  values-with row [] h = refl
  values-with row (e ∷ es) h = by (e.0 == number row) refl (values-with row es h.1)
    where
      by : (t : Bool) → (e.0 == number row) ≡ t → values_of (with_number (number row) row es) ≡ with_row number row (values_of es)
          → values_of (with_number (number row) row (e ∷ es)) ≡ with_row number row (values_of (e ∷ es))
      by true is rest = let own : (number e.1 == number row) ≡ true = ap (λ (k : ℕ). k == number row) (sym h.0) ∙ is in rw (is, own) (ap (λ (rs : List R). row ∷ rs) rest)
      by false is rest = let own : (number e.1 == number row) ≡ false = ap (λ (k : ℕ). k == number row) (sym h.0) ∙ is in rw (is, own) (ap (λ (rs : List R). e.1 ∷ rs) rest)

  -- each row stays under its number
  pub numbered-without : (n : ℕ) (es : List (ℕ × R)) → AreNumbered number es → AreNumbered number (without_number n es)
  numbered-without n [] h = tt
  numbered-without n (e ∷ es) h = by (e.0 == n) refl (numbered-without n es h.1)
    where
      by : (t : Bool) → (e.0 == n) ≡ t → AreNumbered number (without_number n es) → AreNumbered number (without_number n (e ∷ es))
      by true is rest = rw is rest
      by false is rest = rw is (h.0, rest)

  pub numbered-with : (row : R) (es : List (ℕ × R)) → AreNumbered number es → AreNumbered number (with_number (number row) row es)
  numbered-with row [] h = tt
  numbered-with row (e ∷ es) h = by (e.0 == number row) refl (numbered-with row es h.1)
    where
      by : (t : Bool) → (e.0 == number row) ≡ t → AreNumbered number (with_number (number row) row es) → AreNumbered number (with_number (number row) row (e ∷ es))
      by true is rest = rw is (refl, rest)
      by false is rest = rw is (h.0, rest)

  -- a fact of each key holds of the number of each row
  number-from_keys : (P : ℕ → Type 0) (es : List (ℕ × R)) (i : ℕ) (r : R) → AreNumbered number es → AllByRecursion P (keys_of es) → slice_get (values_of es) i ≡ Some r → P (number r)
  number-from_keys P [] i r h all at = cc
  number-from_keys P (e ∷ es) zero r h all at =
      let same : e.1 ≡ r = cc in
      subst P (h.0 ∙ ap number same) all.0
  number-from_keys P (e ∷ es) (suc i) r h all at = number-from_keys P es i r h.1 all.1 at

  -- no row before a place has the number of the row at it
  pub row_with-before : (es : List (ℕ × R)) (i : ℕ) (r : R) → AreNumbered number es → IsDistinct nat_eq (keys_of es) → slice_get (values_of es) i ≡ Some r → row_with number (number r) (take i (values_of es)) ≡ None
  row_with-before [] i r h unique at = cc
  row_with-before (e ∷ es) zero r h unique at = refl
  row_with-before (e ∷ es) (suc i) r h unique at =
      let differs : nat_eq e.0 (number r) ≡ false = number-from_keys (λ k. nat_eq e.0 k ≡ false) es i r h.1 (IsDistinct-head nat_eq e.0 (keys_of es) unique) at in
      ap (λ (b : Bool). cond b (Some e.1) (row_with number (number r) (take i (values_of es)))) (ap (λ (k : ℕ). nat_eq k (number r)) (sym h.0) ∙ differs)
      ∙ row_with-before es i r h.1 (IsDistinct-tail nat_eq e.0 (keys_of es) unique) at

-- one more of the first elements
pub take-more : {X : Type 0} (xs : List X) (i : ℕ) (x : X) → slice_get xs i ≡ Some x → take i xs ++ x ∷ [] ≡ take (i + 1) xs
take-more [] i x at = cc
take-more (y ∷ xs) zero x at = let same : y ≡ x = cc in ap (λ (z : _). z ∷ []) (sym same)
take-more (y ∷ xs) (suc i) x at = rw (add-one (suc i)) (ap (λ (zs : List _). y ∷ zs) (take-more xs i x at ∙ ap (λ (n : ℕ). take n xs) (add-one i)))
