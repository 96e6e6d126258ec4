-- Lexicographic order is a total order on lists of numbers.
use Rattle.std.proofs.Common.{◌≡◌, ℕ, ◌<◌, refl, sym, ◌∙◌, List, [], ◌∷◌, Bool, true, false, ◌⊎◌, inl, inr, arith}
use Rattle.std.specs.Prelude.{nat_lt, ◌==◌, ◌||◌, ◌&&◌}
use Rattle.std.proofs.lemmas.Bool.Decides.{nat_tests}
use Rattle.cad_rings.specs.Canonical.{comes_first}

first_step : (x y : ℕ) (r : Bool) → (nat_lt x y || (x == y && r)) ≡ true → (x < y) ⊎ ((x ≡ y) × (r ≡ true))
first_step x y r h = grind (arith, nat_tests)

not_first_step : (x y : ℕ) (r : Bool) → (nat_lt x y || (x == y && r)) ≡ false → (y < x) ⊎ ((x ≡ y) × (r ≡ false))
not_first_step x y r h = grind (arith, nat_tests)

is_first_step : (x y : ℕ) (r : Bool) → (x < y) ⊎ ((x ≡ y) × (r ≡ true)) → (nat_lt x y || (x == y && r)) ≡ true
is_first_step x y r (inl h) = grind (arith, nat_tests)
is_first_step x y r (inr h) = grind (arith, nat_tests)

pub comes_first-total : (xs ys : List ℕ) → comes_first xs ys ≡ false → comes_first ys xs ≡ true
comes_first-total [] ys h = cc
comes_first-total (x ∷ xs) [] h = refl
comes_first-total (x ∷ xs) (y ∷ ys) h =
    elim (not_first_step x y (comes_first xs ys) h) [
      | inl k ↦ is_first_step y x (comes_first ys xs) (inl k)
      | inr k ↦ is_first_step y x (comes_first ys xs) (inr (sym k.0, comes_first-total xs ys k.1))
    ]

pub comes_first-refl : (xs : List ℕ) → comes_first xs xs ≡ true
comes_first-refl [] = refl
comes_first-refl (x ∷ xs) = is_first_step x x (comes_first xs xs) (inr (refl, comes_first-refl xs))

antisym_step : (x y : ℕ) (xs ys : List ℕ) → (comes_first xs ys ≡ true → comes_first ys xs ≡ true → xs ≡ ys)
    → (x < y) ⊎ ((x ≡ y) × (comes_first xs ys ≡ true)) → (y < x) ⊎ ((y ≡ x) × (comes_first ys xs ≡ true)) → x ∷ xs ≡ y ∷ ys
antisym_step x y xs ys rest (inl h) (inl k) = absurd (omega arith)
antisym_step x y xs ys rest (inl h) (inr k) = absurd (omega arith)
antisym_step x y xs ys rest (inr h) (inl k) = absurd (omega arith)
antisym_step x y xs ys rest (inr h) (inr k) = let e = rest h.1 k.1 in let e' = h.0 in cc

pub comes_first-antisym : (xs ys : List ℕ) → comes_first xs ys ≡ true → comes_first ys xs ≡ true → xs ≡ ys
comes_first-antisym [] [] h k = refl
comes_first-antisym [] (y ∷ ys) h k = cc
comes_first-antisym (x ∷ xs) [] h k = cc
comes_first-antisym (x ∷ xs) (y ∷ ys) h k =
    antisym_step x y xs ys (comes_first-antisym xs ys) (first_step x y (comes_first xs ys) h) (first_step y x (comes_first ys xs) k)

trans_step : (x y z : ℕ) (xs ys zs : List ℕ) → (comes_first xs ys ≡ true → comes_first ys zs ≡ true → comes_first xs zs ≡ true)
    → (x < y) ⊎ ((x ≡ y) × (comes_first xs ys ≡ true)) → (y < z) ⊎ ((y ≡ z) × (comes_first ys zs ≡ true)) → (x < z) ⊎ ((x ≡ z) × (comes_first xs zs ≡ true))
trans_step x y z xs ys zs rest (inl h) (inl k) = inl (omega arith)
trans_step x y z xs ys zs rest (inl h) (inr k) = inl (omega arith)
trans_step x y z xs ys zs rest (inr h) (inl k) = inl (omega arith)
trans_step x y z xs ys zs rest (inr h) (inr k) = inr (h.0 ∙ k.0, rest h.1 k.1)

pub comes_first-trans : (xs ys zs : List ℕ) → comes_first xs ys ≡ true → comes_first ys zs ≡ true → comes_first xs zs ≡ true
comes_first-trans [] ys zs h k = refl
comes_first-trans (x ∷ xs) [] zs h k = cc
comes_first-trans (x ∷ xs) (y ∷ ys) [] h k = cc
comes_first-trans (x ∷ xs) (y ∷ ys) (z ∷ zs) h k =
    is_first_step x z (comes_first xs zs) (trans_step x y z xs ys zs (comes_first-trans xs ys zs) (first_step x y (comes_first xs ys) h) (first_step y z (comes_first ys zs) k))
