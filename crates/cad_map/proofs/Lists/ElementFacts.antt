-- Elements of lists: pairs of them, and what filters keep.
use Rattle.std.proofs.Common.{◌≡◌, ◌⊎◌, inl, inr, refl, sym, ap, subst, ◌∙◌, List, [], ◌∷◌, length, map, filter, find, Some, None, Bool, true, false, true≢false, arith}
use Rattle.std.specs.Prelude.{◌&&◌}
use Rattle.std.specs.List.{AllByRecursion, Contains, list_all, list_any}
use Rattle.cad_map.specs.Valid.{EachPair, each_pair}
use Rattle.cad_map.proofs.Lists.Elements.{Contains-cases, Contains-first, Contains-later, All-at_each}

module _ {X : Type 0} where
  -- an element that passes the test stays
  pub Contains-filter : (test : X → Bool) (xs : List X) (x : X) → Contains xs x → test x ≡ true → Contains (filter test xs) x
  Contains-filter test [] x h passes = let low = h.1 in absurd (omega arith)
  Contains-filter test (y ∷ ys) x h passes = by (test y) refl (Contains-cases y ys x h) (λ later. Contains-filter test ys x later passes)
    where
      by : (b : Bool) → test y ≡ b → (y ≡ x) ⊎ Contains ys x → (Contains ys x → Contains (filter test ys) x) → Contains (filter test (y ∷ ys)) x
      by true is (inl same) again = rw is (subst (Contains (y ∷ filter test ys)) same (Contains-first y (filter test ys)))
      by true is (inr later) again = rw is (Contains-later y (filter test ys) x (again later))
      by false is (inl same) again = absurd (true≢false (sym passes ∙ ap test (sym same) ∙ is))
      by false is (inr later) again = rw is (again later)

  -- one that stays is an element, and passes
  pub filter-Contains : (test : X → Bool) (xs : List X) (x : X) → Contains (filter test xs) x → Contains xs x × (test x ≡ true)
  filter-Contains test [] x h = let low = h.1 in absurd (omega arith)
  filter-Contains test (y ∷ ys) x h = by (test y) refl (λ later. filter-Contains test ys x later)
    where
      by : (b : Bool) → test y ≡ b → (Contains (filter test ys) x → Contains ys x × (test x ≡ true)) → Contains (y ∷ ys) x × (test x ≡ true)
      by true is again = elim (Contains-cases y (filter test ys) x (rw is at h)) [
        | inl same ↦ (subst (Contains (y ∷ ys)) same (Contains-first y ys), ap test (sym same) ∙ is)
        | inr later ↦ let there = again later in (Contains-later y ys x there.0, there.1)
      ]
      by false is again = let there = again (rw is at h) in (Contains-later y ys x there.0, there.1)

  -- what all pass, each passes
  pub list_all-at : (test : X → Bool) (xs : List X) (x : X) → list_all test xs ≡ true → Contains xs x → test x ≡ true
  list_all-at test [] x all h = let low = h.1 in absurd (omega arith)
  list_all-at test (y ∷ ys) x all h = by (test y) refl all (Contains-cases y ys x h) (λ rest later. list_all-at test ys x rest later)
    where
      by : (b : Bool) → test y ≡ b → (test y && list_all test ys) ≡ true → (y ≡ x) ⊎ Contains ys x → (list_all test ys ≡ true → Contains ys x → test x ≡ true) → test x ≡ true
      by true is all (inl same) again = ap test (sym same) ∙ is
      by true is all (inr later) again = again (rw is at all) later
      by false is all where_it again = absurd (true≢false (sym (rw is at all)))

  pub list_all-from : (test : X → Bool) (xs : List X) → ((x : X) → Contains xs x → test x ≡ true) → list_all test xs ≡ true
  list_all-from test [] each = refl
  list_all-from test (x ∷ xs) each = rw (each x (Contains-first x xs)) (list_all-from test xs (λ y h. each y (Contains-later x xs y h)))

  pub list_any-none : (test : X → Bool) (xs : List X) → ((x : X) → Contains xs x → test x ≡ false) → list_any test xs ≡ false
  list_any-none test [] each = refl
  list_any-none test (x ∷ xs) each = rw (each x (Contains-first x xs)) (list_any-none test xs (λ y h. each y (Contains-later x xs y h)))

  pub find-nothing : (test : X → Bool) (xs : List X) → ((x : X) → Contains xs x → test x ≡ false) → find test xs ≡ None
  find-nothing test [] each = refl
  find-nothing test (x ∷ xs) each = rw (each x (Contains-first x xs)) (find-nothing test xs (λ y h. each y (Contains-later x xs y h)))

  -- one that is found is an element, and passes
  pub find-Contains : (test : X → Bool) (xs : List X) (x : X) → find test xs ≡ Some x → Contains xs x × (test x ≡ true)
  find-Contains test [] x found = cc
  find-Contains test (y ∷ ys) x found = by (test y) refl (λ rest. find-Contains test ys x rest)
    where
      by : (b : Bool) → test y ≡ b → (find test ys ≡ Some x → Contains ys x × (test x ≡ true)) → Contains (y ∷ ys) x × (test x ≡ true)
      by true is again =
          let first : Some y ≡ Some x = rw is at found in
          let same : y ≡ x = cc in
          (subst (Contains (y ∷ ys)) same (Contains-first y ys), ap test (sym same) ∙ is)
      by false is again = let there = again (rw is at found) in (Contains-later y ys x there.0, there.1)

  pub Contains-one : (xs : List X) (x y : X) → length xs ≡ 1 → Contains xs x → Contains xs y → x ≡ y
  Contains-one [] x y one h k = absurd (omega (arith, one))
  Contains-one (z ∷ []) x y one h k = elim (Contains-cases z [] x h) [
    | inl same ↦ elim (Contains-cases z [] y k) [ inl too ↦ sym same ∙ too | inr none ↦ let low = none.1 in absurd (omega arith) ]
    | inr none ↦ let low = none.1 in absurd (omega arith)
  ]
  Contains-one (z ∷ w ∷ zs) x y one h k = absurd (omega (arith, one))

  -- two elements are one, or one stands before the other
  pub EachPair-two : (R : X → X → Type 0) (xs : List X) (x y : X) → EachPair R xs → Contains xs x → Contains xs y → (x ≡ y) ⊎ (R x y ⊎ R y x)
  EachPair-two R [] x y each h k = let low = h.1 in absurd (omega arith)
  EachPair-two R (z ∷ zs) x y each h k = elim (Contains-cases z zs x h) [
    | inl here ↦ elim (Contains-cases z zs y k) [
      | inl too ↦ inl (sym here ∙ too)
      | inr later ↦ inr (inl (subst (λ (w : X). R w y) here (All-at_each (R z) zs y each.0 later)))
    ]
    | inr there ↦ elim (Contains-cases z zs y k) [
      | inl here ↦ inr (inr (subst (λ (w : X). R w x) here (All-at_each (R z) zs x each.0 there)))
      | inr later ↦ EachPair-two R zs x y each.1 there later
    ]
  ]

  -- the same of a test of each pair
  pub EachPair-from_test : (test : X → X → Bool) (xs : List X) → each_pair test xs ≡ true → EachPair (λ a b. test a b ≡ true) xs
  EachPair-from_test test [] passes = tt
  EachPair-from_test test (x ∷ xs) passes = by (list_all (test x) xs) refl passes (λ rest. EachPair-from_test test xs rest)
    where
      all : (ys : List X) → list_all (test x) ys ≡ true → AllByRecursion (λ b. test x b ≡ true) ys
      all [] h = tt
      all (y ∷ ys) h = (list_all-at (test x) (y ∷ ys) y h (Contains-first y ys), all ys (either (test x y) h))
        where
          either : (b : Bool) → (b && list_all (test x) ys) ≡ true → list_all (test x) ys ≡ true
          either true h = h
          either false h = absurd (true≢false (sym h))

      by : (b : Bool) → list_all (test x) xs ≡ b → (list_all (test x) xs && each_pair test xs) ≡ true → (each_pair test xs ≡ true → EachPair (λ a b. test a b ≡ true) xs) → EachPair (λ a b. test a b ≡ true) (x ∷ xs)
      by true is passes again = (all xs is, again (rw is at passes))
      by false is passes again = absurd (true≢false (sym (rw is at passes)))

-- an element of a list that was mapped comes from one of the list
pub map-Contains : {X Y : Type 0} (f : X → Y) (xs : List X) (y : Y) → Contains (map f xs) y → (x : X) × Contains xs x × (f x ≡ y)
map-Contains f [] y h = let low = h.1 in absurd (omega arith)
map-Contains f (x ∷ xs) y h = elim (Contains-cases (f x) (map f xs) y h) [
  | inl same ↦ (x, Contains-first x xs, same)
  | inr later ↦ let there = map-Contains f xs y later in (there.0, Contains-later x xs there.0 there.1, there.2)
]
