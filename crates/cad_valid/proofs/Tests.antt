-- Tests of what is left of a list from a place on, step by step.
use Rattle.std.proofs.Common.{◌≡◌, ℕ, ◌+◌, List, [], ◌∷◌, Bool, true, false, drop, get_or, slice_get, Some, length, ◌<◌, ◌≤◌, refl, sym, ap, ◌∙◌, arith}
use Rattle.std.specs.Prelude.{◌&&◌}
use Rattle.std.proofs.lemmas.List.{drop_all}
use Rattle.std.proofs.lemmas.Option.{slice_get-get_or}
use Rattle.std.specs.List.{list_all}
use Rattle.cad_map.specs.Valid.{each_pair}
use Rattle.cad_map.proofs.CallerLemmas.{drop-at}

module _ {X : Type 0} (test : X → Bool) (xs : List X) (i : ℕ) (x : X) (at : slice_get xs i ≡ Some x) where
  pub all-stops : test x ≡ false → list_all test (drop i xs) ≡ false
  all-stops fails = rw (drop-at xs i x at, fails) refl

  pub all-goes : test x ≡ true → list_all test (drop i xs) ≡ list_all test (drop (i + 1) xs)
  all-goes passes = rw (drop-at xs i x at, passes) refl

-- past the last element all have passed
pub all-done : {X : Type 0} (test : X → Bool) (xs : List X) (i : ℕ) → length xs ≤ i → list_all test (drop i xs) ≡ true
all-done test xs i past = rw (drop_all i xs past) refl

-- whether each passes with each, asked of either first
pub all-turned : {X Y : Type 0} (test : X → Y → Bool) (xs : List X) (ys : List Y) → list_all (λ x. list_all (test x) ys) xs ≡ list_all (λ y. list_all (λ x. test x y) xs) ys
all-turned test [] ys = sym (none ys)
  where
    none : {Y : Type 0} (ys : List Y) → list_all (λ (y : Y). true) ys ≡ true
    none [] = refl
    none (y ∷ ys) = none ys
all-turned test (x ∷ xs) ys = ap (λ (b : Bool). list_all (test x) ys && b) (all-turned test xs ys) ∙ sym (both (test x) (λ y. list_all (λ x. test x y) xs) ys)
  where
    both : {Y : Type 0} (p q : Y → Bool) (ys : List Y) → list_all (λ y. p y && q y) ys ≡ (list_all p ys && list_all q ys)
    both p q [] = refl
    both p q (y ∷ ys) = by (p y) (q y) (list_all p ys) (list_all q ys) (both p q ys)
      where
        by : (a b c d : Bool) {e : Bool} → e ≡ (c && d) → ((a && b) && e) ≡ ((a && c) && (b && d))
        by true true c d h = h
        by true false true d h = refl
        by true false false d h = refl
        by false b c d h = refl

-- the same of a list of so many elements, by what reads as the element at a place
module _ {X : Type 0} (test : X → Bool) (xs : List X) (none : X) (count : ℕ) (counted : count ≡ length xs) (i : ℕ) where
  pub all-stops_at : i < count → test (get_or xs i none) ≡ false → list_all test (drop i xs) ≡ false
  all-stops_at within fails = all-stops test xs i (get_or xs i none) (slice_get-get_or xs i none (omega arith)) fails

  pub all-done_at : count ≤ i → list_all test (drop i xs) ≡ true
  all-done_at past = all-done test xs i (omega arith)

-- and of a test of two elements
module _ {X : Type 0} (test : X → X → Bool) (xs : List X) (i : ℕ) (x : X) (at : slice_get xs i ≡ Some x) where
  pub pairs-stop : list_all (test x) (drop (i + 1) xs) ≡ false → each_pair test (drop i xs) ≡ false
  pairs-stop fails = rw (drop-at xs i x at, fails) refl

  pub pairs-go : list_all (test x) (drop (i + 1) xs) ≡ true → each_pair test (drop i xs) ≡ each_pair test (drop (i + 1) xs)
  pairs-go passes = rw (drop-at xs i x at, passes) refl

pub pairs-done : {X : Type 0} (test : X → X → Bool) (xs : List X) (i : ℕ) → length xs ≤ i → each_pair test (drop i xs) ≡ true
pairs-done test xs i past = rw (drop_all i xs past) refl

module _ {X : Type 0} (test : X → X → Bool) (xs : List X) (none : X) (count : ℕ) (counted : count ≡ length xs) (i : ℕ) where
  pub pairs-stop_at : i < count → list_all (test (get_or xs i none)) (drop (i + 1) xs) ≡ false → each_pair test (drop i xs) ≡ false
  pairs-stop_at within fails = pairs-stop test xs i (get_or xs i none) (slice_get-get_or xs i none (omega arith)) fails

  pub pairs-go_at : i < count → list_all (test (get_or xs i none)) (drop (i + 1) xs) ≡ true → each_pair test (drop i xs) ≡ each_pair test (drop (i + 1) xs)
  pairs-go_at within passes = pairs-go test xs i (get_or xs i none) (slice_get-get_or xs i none (omega arith)) passes

  pub pairs-done_at : count ≤ i → each_pair test (drop i xs) ≡ true
  pairs-done_at past = pairs-done test xs i (omega arith)
