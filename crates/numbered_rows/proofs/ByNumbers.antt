-- Rows that are told by their numbers.
use Rattle.std.proofs.Common.{◌≡◌, ℕ, List, [], ◌∷◌, Bool, true, false, ◌==◌, map, find, refl, ◌∙◌, Option, Some, None}
use Rattle.std.specs.Prelude.{option_map, is_some}
use Rattle.std.specs.List.{list_any}
use Rattle.numbered_rows.specs.Rows.{row_with}

find-map : {X Y : Type 0} (p : Y → Bool) (f : X → Y) (xs : List X) → option_map f (find (λ x. p (f x)) xs) ≡ find p (map f xs)
find-map p f [] = refl
find-map p f (x ∷ xs) = by (p (f x)) refl (find-map p f xs)
  where
    by : (t : Bool) → p (f x) ≡ t → option_map f (find (λ x. p (f x)) xs) ≡ find p (map f xs) → option_map f (find (λ x. p (f x)) (x ∷ xs)) ≡ find p (map f (x ∷ xs))
    by true is rest = rw is refl
    by false is rest = rw is rest

-- no row has a number that isn't among the rows' numbers
pub none-by_numbers : {R : Type 0} (number : R → ℕ) (n : ℕ) (rows : List R) → row_with (λ k. k) n (map number rows) ≡ None → row_with number n rows ≡ None
none-by_numbers number n rows none = by (row_with number n rows) (find-map (λ k. k == n) number rows ∙ none)
  where
    by : (o : Option _) → option_map number o ≡ None → o ≡ None
    by None e = refl
    by (Some r) e = cc

-- a row has the number where it is among the rows' numbers
pub some-by_numbers : {R : Type 0} (number : R → ℕ) (n : ℕ) (rows : List R) → is_some (row_with number n rows) ≡ list_any (λ k. k == n) (map number rows)
some-by_numbers number n [] = refl
some-by_numbers number n (r ∷ rows) = by (number r == n) refl (some-by_numbers number n rows)
  where
    by : (t : Bool) → (number r == n) ≡ t → is_some (row_with number n rows) ≡ list_any (λ k. k == n) (map number rows) → is_some (row_with number n (r ∷ rows)) ≡ list_any (λ k. k == n) (map number (r ∷ rows))
    by true is rest = rw is refl
    by false is rest = rw is rest
