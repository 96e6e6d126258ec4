-- Rows taken one after another, of which none have the same number.
use Rattle.std.proofs.Common.{◌≡◌, ◌≢◌, ℕ, zero, suc, refl, subst, List, [], ◌∷◌, map, take, Bool, true, false, nat_eq, slice_get, Some, None, is_some}
use Rattle.std.specs.List.{AllByRecursion}
use Rattle.std.proofs.lemmas.Bool.{eqb-true}
use Rattle.std.proofs.lemmas.Cmp.{nat_eq_equiv}
use Rattle.numbered_rows.specs.Rows.{row_with}
use Rattle.cad_map.specs.Valid.{EachPair}

module _ {R : Type 0} (number : R → ℕ) where
  -- no row before a place has the number of the row at it
  pub row_with-earlier : (rows : List R) (i : ℕ) (r : R) → EachPair (λ a b. a ≢ b) (map number rows) → slice_get rows i ≡ Some r → row_with number (number r) (take i rows) ≡ None
  row_with-earlier [] i r each at = cc
  row_with-earlier (q ∷ rows) zero r each at = refl
  row_with-earlier (q ∷ rows) (suc i) r each at = by (nat_eq (number q) (number r)) refl (row_with-earlier rows i r each.1 at)
    where
      differs : (rows : List R) (i : ℕ) → AllByRecursion (λ n. number q ≢ n) (map number rows) → slice_get rows i ≡ Some r → number q ≢ number r
      differs [] i other at = cc
      differs (s ∷ rows) zero other at = let same : s ≡ r = cc in subst (λ (t : R). number q ≢ number t) same other.0
      differs (s ∷ rows) (suc i) other at = differs rows i other.1 at

      by : (t : Bool) → nat_eq (number q) (number r) ≡ t → row_with number (number r) (take i rows) ≡ None → row_with number (number r) (take (suc i) (q ∷ rows)) ≡ None
      by true is rest = absurd (differs rows i each.0 at (eqb-true (number q) (number r) is))
      by false is rest = rw is rest

  -- and the row at it is there
  pub row_with-there : (rows : List R) (i : ℕ) (r : R) → slice_get rows i ≡ Some r → is_some (row_with number (number r) rows) ≡ true
  row_with-there [] i r at = cc
  row_with-there (q ∷ rows) zero r at = let same : q ≡ r = cc in rw (same, nat_eq_equiv.refl (number r)) refl
  row_with-there (q ∷ rows) (suc i) r at = by (nat_eq (number q) (number r)) refl (row_with-there rows i r at)
    where
      by : (t : Bool) → nat_eq (number q) (number r) ≡ t → is_some (row_with number (number r) rows) ≡ true → is_some (row_with number (number r) (q ∷ rows)) ≡ true
      by true is rest = rw is refl
      by false is rest = rw is rest
