-- Integers added up over lists.
use Rattle.std.proofs.Common.{◌≡◌, ◌+◌, refl, sym, ap, ◌∙◌, List, [], ◌∷◌, ◌++◌, filter, Bool, true, false, ℤ, pos, ◌+ℤ◌, arith}
use Rattle.std.proofs.lemmas.Int.{ints}
use Rattle.std.proofs.lemmas.List.Sums.{sum_by-cons}
use Rattle.std.proofs.lemmas.List.Sorted.{sum_by-IsPermutation}
use Rattle.std.specs.Prelude.{IsPermutation, sum_by, flat_map}
use Rattle.std.specs.List.{Contains}
use borrow.Author.Differences.{up, down, same_in, sum_is_lem}
use Rattle.cad_rows.specs.declared.rows.StringRow.{StringRow}
use Rattle.cad_map.proofs.CallerLemmas.{Contains-first, Contains-later}
use Rattle.cad_laws.specs.Areas.{sum_of_strings}

module _ {X : Type 0} where
  -- a number for each element, added up
  abbrev pub total : (X → ℤ) → List X → ℤ
  total g [] = pos 0
  total g (x ∷ xs) = g x +ℤ total g xs

  -- the total over one list and another after it
  pub total-append : (g : X → ℤ) (xs ys : List X)
      → total g (xs ++ ys) ≡ total g xs +ℤ total g ys
  total-append g [] ys = omega (arith, ints)
  total-append g (x ∷ xs) ys = let h = total-append g xs ys in omega (arith, ints)

  -- numbers that agree on the elements have one total
  pub total-same : (g h : X → ℤ) (xs : List X) → ((x : X) → Contains xs x → g x ≡ h x)
      → total g xs ≡ total h xs
  total-same g h [] same = refl
  total-same g h (x ∷ xs) same =
      λ i. same x (Contains-first x xs) i
      +ℤ total-same g h xs (λ y k. same y (Contains-later x xs y k)) i

  -- numbers that are nothing add up to nothing
  pub total-none : (g : X → ℤ) (xs : List X) → ((x : X) → Contains xs x → g x ≡ pos 0)
      → total g xs ≡ pos 0
  total-none g [] none = refl
  total-none g (x ∷ xs) none =
      λ i. none x (Contains-first x xs) i
      +ℤ total-none g xs (λ y k. none y (Contains-later x xs y k)) i

  -- where the others have nothing, those that pass a test have the total
  pub total-filter : (g : X → ℤ) (test : X → Bool) (xs : List X)
      → ((x : X) → Contains xs x → test x ≡ false → g x ≡ pos 0)
      → total g xs ≡ total g (filter test xs)
  total-filter g test [] none = refl
  total-filter g test (x ∷ xs) none =
      by (test x) refl (total-filter g test xs (λ y k. none y (Contains-later x xs y k)))
    where
      by : (b : Bool) → test x ≡ b → total g xs ≡ total g (filter test xs)
          → total g (x ∷ xs) ≡ total g (filter test (x ∷ xs))
      by true is rest = rw is (ap (λ (z : ℤ). g x +ℤ z) rest)
      by false is rest =
          let nothing = none x (Contains-first x xs) is in
          rw is (omega (arith, ints, nothing, rest))

  -- a total, as a difference of naturals
  as_difference : (g : X → ℤ) (xs : List X)
      → up (total g xs) + sum_by (λ x. down (g x)) xs
      ≡ sum_by (λ x. up (g x)) xs + down (total g xs)
  as_difference g [] = refl
  as_difference g (x ∷ xs) =
      let h = as_difference g xs in
      let e1 = sum_by-cons (λ (y : X). down (g y)) x xs in
      let e2 = sum_by-cons (λ (y : X). up (g y)) x xs in
      omega (arith, sum_is_lem (g x) (total g xs), h, e1, e2)

  -- in another order the total is the same
  pub total-permuted : (g : X → ℤ) (xs ys : List X) → IsPermutation xs ys
      → total g xs ≡ total g ys
  total-permuted g xs ys p =
      let hx = as_difference g xs in
      let hy = as_difference g ys in
      let e1 = sum_by-IsPermutation (λ (x : X). down (g x)) xs ys p in
      let e2 = sum_by-IsPermutation (λ (x : X). up (g x)) xs ys p in
      same_in (total g xs) (total g ys) (omega arith)

-- over lists one after the other, list by list
pub total-flat_map : {X Y : Type 0} (g : X → ℤ) (f : Y → List X) (ys : List Y)
    → total g (flat_map f ys) ≡ total (λ y. total g (f y)) ys
total-flat_map g f [] = refl
total-flat_map g f (y ∷ ys) =
    total-append g (f y) (flat_map f ys)
    ∙ ap (λ (z : ℤ). total g (f y) +ℤ z) (total-flat_map g f ys)

-- ---- Totals over strings

-- the sum of strings is their total
pub strings-total : (g : StringRow → ℤ) (ss : List StringRow) → sum_of_strings g ss ≡ total g ss
strings-total g [] = refl
strings-total g (s ∷ ss) = ap (λ (z : ℤ). g s +ℤ z) (strings-total g ss)

-- strings in another order have the same sum
pub sum_of_strings-permuted : (g : StringRow → ℤ) (ss ts : List StringRow) → IsPermutation ss ts
    → sum_of_strings g ss ≡ sum_of_strings g ts
sum_of_strings-permuted g ss ts p =
    strings-total g ss ∙ total-permuted g ss ts p ∙ sym (strings-total g ts)

-- one list of strings after another
pub sum_of_strings-append : (g : StringRow → ℤ) (ss ts : List StringRow)
    → sum_of_strings g (ss ++ ts) ≡ sum_of_strings g ss +ℤ sum_of_strings g ts
sum_of_strings-append g [] ts = omega (arith, ints)
sum_of_strings-append g (s ∷ ss) ts = let h = sum_of_strings-append g ss ts in omega (arith, ints)

-- one more string
pub sum_of_strings-push : (g : StringRow → ℤ) (ss : List StringRow) (s : StringRow)
    → sum_of_strings g (ss ++ s ∷ []) ≡ sum_of_strings g ss +ℤ g s
sum_of_strings-push g ss s = let h = sum_of_strings-append g ss (s ∷ []) in omega (arith, ints)

-- numbers that agree on the strings have one sum
pub sum_of_strings-same : (g h : StringRow → ℤ) (ss : List StringRow)
    → ((s : StringRow) → Contains ss s → g s ≡ h s) → sum_of_strings g ss ≡ sum_of_strings h ss
sum_of_strings-same g h ss same =
    strings-total g ss ∙ total-same g h ss same ∙ sym (strings-total h ss)
