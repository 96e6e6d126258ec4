-- Lists in which no element stands twice: one that is taken out, and two of the same elements.
use Rattle.std.proofs.Common.{◌≡◌, ◌≢◌, ◌≤◌, ◌⊎◌, inl, inr, refl, sym, ap, subst, ◌∙◌, List, [], ◌∷◌, ◌++◌, length, filter, Bool, true, false, cond, true≢false, arith}
use Rattle.std.proofs.lemmas.Bool.{cases_lt}
use Rattle.std.proofs.lemmas.List.Sorted.{IsPermutation-refl, IsPermutation-sym, IsPermutation-trans, IsPermutation-cons, IsPermutation-append_right, IsPermutation-remove, Contains-permutation, length_permutation}
use Rattle.std.specs.Prelude.{not, ◌||◌, flat_map, IsPermutation}
use Rattle.std.specs.List.{AllByRecursion, Contains, remove}
use Rattle.cad_map.specs.Valid.{EachPair}
use Rattle.cad_map.proofs.Lists.EachElement.{All-append, All-filter}
use Rattle.cad_map.proofs.Lists.Elements.{Contains-cases, Contains-first, Contains-later, All-at_each}
use Rattle.cad_map.proofs.Boundaries.OrderedSides.{front_exchanged}

module _ {X : Type 0} (R : X → X → Type 0) where
  pub EachPair-filter : (test : X → Bool) (xs : List X) → EachPair R xs → EachPair R (filter test xs)
  EachPair-filter test [] each = tt
  EachPair-filter test (x ∷ xs) each = by (test x) refl (EachPair-filter test xs each.1)
    where
      by : (b : Bool) → test x ≡ b → EachPair R (filter test xs) → EachPair R (filter test (x ∷ xs))
      by true is rest = rw is (All-filter (R x) test xs each.0, rest)
      by false is rest = rw is rest

  -- of two lists one after the other: each of the first with each of the second
  pub EachPair-append : (xs ys : List X) → EachPair R (xs ++ ys) → EachPair R xs × EachPair R ys × AllByRecursion (λ x. AllByRecursion (R x) ys) xs
  EachPair-append [] ys each = (tt, each, tt)
  EachPair-append (x ∷ xs) ys each =
      let here = All-append (R x) xs ys each.0 in
      let rest = EachPair-append xs ys each.1 in
      ((here.0, rest.0), rest.1, (here.1, rest.2))

-- ---- Lists of the same elements

module _ {X : Type 0} where
  -- elements that a list of no greater length has too are all of it
  pub fills : (xs ys : List X) → EachPair (λ a b. a ≢ b) xs → ((x : X) → Contains xs x → Contains ys x) → length ys ≤ length xs → IsPermutation xs ys
  fills [] [] each within few = IsPermutation-refl []
  fills [] (y ∷ ys) each within few = absurd (omega arith)
  fills (x ∷ xs) ys each within few =
      let h = within x (Contains-first x xs) in
      let rest = remove ys h.0 in
      let moved : IsPermutation ys (x ∷ rest) = IsPermutation-remove ys h.0 x h.1 (sym h.2) in
      let long = length_permutation ys (x ∷ rest) moved in
      let inside : (z : X) → Contains xs z → Contains rest z = λ z k.
      elim (Contains-cases x rest z (Contains-permutation ys (x ∷ rest) z moved (within z (Contains-later x xs z k)))) [ inl same ↦ absurd (All-at_each (λ b. x ≢ b) xs z each.0 k same) | inr later ↦ later ] in
      IsPermutation-trans (x ∷ xs) (x ∷ rest) ys (IsPermutation-cons x xs rest (fills xs rest each.1 inside (omega (arith, long, few)))) (IsPermutation-sym ys (x ∷ rest) moved)

  -- two lists of the same elements are one in two orders
  pub same_elements : (xs ys : List X) → EachPair (λ a b. a ≢ b) xs → EachPair (λ a b. a ≢ b) ys → ((x : X) → Contains xs x → Contains ys x) → ((x : X) → Contains ys x → Contains xs x) → IsPermutation xs ys
  same_elements xs ys one two into back = elim (cases_lt (length xs) (length ys)) [
    | inl less ↦ IsPermutation-sym ys xs (fills ys xs two back (omega (arith, less)))
    | inr few ↦ fills xs ys one into few
  ]

  -- ---- One element taken out

  -- what neither of two tests passes
  pub filter-neither : (p q : X → Bool) (xs : List X) → filter (λ x. not (p x || q x)) xs ≡ filter (λ x. not (q x)) (filter (λ x. not (p x)) xs)
  filter-neither p q [] = refl
  filter-neither p q (x ∷ xs) = by (p x) refl (filter-neither p q xs)
    where
      by : (b : Bool) → p x ≡ b → filter (λ x. not (p x || q x)) xs ≡ filter (λ x. not (q x)) (filter (λ x. not (p x)) xs)
          → filter (λ x. not (p x || q x)) (x ∷ xs) ≡ filter (λ x. not (q x)) (filter (λ x. not (p x)) (x ∷ xs))
      by true is rest = simp is rest
      by false is rest = simp is (ap (λ (l : List X). cond (not (q x)) (x ∷ l) l) rest)

module _ {X : Type 0} (test : X → Bool) (a : X) (alone : (x : X) → test x ≡ true → x ≡ a) where
  -- where it isn't, none goes
  none_goes : (xs : List X) → AllByRecursion (λ x. a ≢ x) xs → filter (λ x. not (test x)) xs ≡ xs
  none_goes [] other = refl
  none_goes (x ∷ xs) other = by (test x) refl (none_goes xs other.1)
    where
      by : (b : Bool) → test x ≡ b → filter (λ x. not (test x)) xs ≡ xs → filter (λ x. not (test x)) (x ∷ xs) ≡ x ∷ xs
      by true is rest = absurd (other.0 (sym (alone x is)))
      by false is rest = simp is (ap (λ (l : List X). x ∷ l) rest)

  -- the parts of all elements: those of the only one that passes the test, and those of the others
  pub taken_out : {A : Type 0} (f : X → List A) (xs : List X) → test a ≡ true → EachPair (λ a b. a ≢ b) xs → Contains xs a → IsPermutation (flat_map f xs) (f a ++ flat_map f (filter (λ x. not (test x)) xs))
  taken_out f [] passes each there = let low = there.1 in absurd (omega arith)
  taken_out {A} f (x ∷ xs) passes each there = by (test x) refl (Contains-cases x xs a there) (λ later. taken_out f xs passes each.1 later)
    where
      others : List X
      others = filter (λ x. not (test x)) xs

      by : (b : Bool) → test x ≡ b → (x ≡ a) ⊎ Contains xs a → (Contains xs a → IsPermutation (flat_map f xs) (f a ++ flat_map f others))
          → IsPermutation (f x ++ flat_map f xs) (f a ++ flat_map f (filter (λ x. not (test x)) (x ∷ xs)))
      by true is where_it again =
          let same = alone x is in
          let all : others ≡ xs = none_goes xs (subst (λ (z : X). AllByRecursion (λ b. z ≢ b) xs) same each.0) in
          simp (is, all) (subst (λ (z : X). IsPermutation (f x ++ flat_map f xs) (f z ++ flat_map f xs)) same (IsPermutation-refl (f x ++ flat_map f xs)))
      by false is (inl same) again = absurd (true≢false (sym passes ∙ ap test (sym same) ∙ is))
      by false is (inr later) again =
          simp is (IsPermutation-trans (f x ++ flat_map f xs) (f x ++ (f a ++ flat_map f others)) (f a ++ (f x ++ flat_map f others)) (IsPermutation-append_right (f x) (flat_map f xs) (f a ++ flat_map f others) (again later))
          (front_exchanged (f x) (f a) (flat_map f others)))
