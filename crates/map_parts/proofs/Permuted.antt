-- Lists in another order, where it is told of each two elements whether they are the same.
use Rattle.std.proofs.Common.{◌≡◌, ◌≢◌, ◌⊎◌, ℕ, ◌+◌, ◌≤◌, Bool, true, false, not, List, [], ◌∷◌, ◌++◌, filter, refl, sym, ap, ◌∙◌, subst, inl, inr, arith, true≢false, cond}
use Rattle.std.specs.Prelude.{IsPermutation, count_by, flat_map}
use Rattle.std.specs.List.{AllByRecursion, Contains}
use Rattle.std.proofs.lemmas.List.{append_assoc}
use Rattle.std.proofs.lemmas.List.Sums.{sum_by-append}
use Rattle.std.proofs.lemmas.List.Sorted.{IsPermutation-refl, IsPermutation-cons, IsPermutation-sym, IsPermutation-trans, IsPermutation-middle, IsPermutation-append_left, IsPermutation-append_right, IsPermutation-append_comm, sum_by-IsPermutation}
use Rattle.cad_map.specs.Valid.{EachPair}
use Rattle.cad_map.proofs.CallerLemmas.{Contains-cases, count-yes, count-no, front_exchanged}

-- the first and the second part exchanged, and the first put behind the third
pub turned : {X : Type 0} (us bs cs ds : List X) → IsPermutation ((us ++ bs) ++ (cs ++ ds)) (bs ++ ((cs ++ us) ++ ds))
turned {X} us bs cs ds =
    let one : IsPermutation ((us ++ bs) ++ (cs ++ ds)) ((bs ++ us) ++ (cs ++ ds)) = IsPermutation-append_left (cs ++ ds) (us ++ bs) (bs ++ us) (IsPermutation-append_comm us bs) in
    let two : (bs ++ us) ++ (cs ++ ds) ≡ bs ++ (us ++ (cs ++ ds)) = append_assoc bs us (cs ++ ds) in
    let three : IsPermutation (bs ++ (us ++ (cs ++ ds))) (bs ++ (cs ++ (us ++ ds))) = IsPermutation-append_right bs (us ++ (cs ++ ds)) (cs ++ (us ++ ds)) (front_exchanged us cs ds) in
    let four : bs ++ (cs ++ (us ++ ds)) ≡ bs ++ ((cs ++ us) ++ ds) = ap (λ (l : List X). bs ++ l) (sym (append_assoc cs us ds)) in
    IsPermutation-trans ((us ++ bs) ++ (cs ++ ds)) ((bs ++ us) ++ (cs ++ ds)) (bs ++ ((cs ++ us) ++ ds)) one
    (subst (λ (l : List X). IsPermutation l (bs ++ ((cs ++ us) ++ ds))) (sym two) (subst (IsPermutation (bs ++ (us ++ (cs ++ ds)))) four three))

module _ {X : Type 0} (eq : X → X → Bool) (same : (x y : X) → eq x y ≡ true → x ≡ y) (self : (x : X) → eq x x ≡ true) where
  -- how often it stands there
  abbrev often : X → List X → ℕ
  often x xs = count_by (eq x) xs

  often-append : (x : X) (xs ys : List X) → often x (xs ++ ys) ≡ often x xs + often x ys
  often-append x xs ys = sum_by-append (λ (y : X). cond (eq x y) 1 0) xs ys

  often-permuted : (x : X) (xs ys : List X) → IsPermutation xs ys → often x xs ≡ often x ys
  often-permuted x xs ys h = sym (sum_by-IsPermutation (λ (y : X). cond (eq x y) 1 0) xs ys h)

  -- an element that stands there, with what stands before and behind it
  at-front : (x : X) (ys : List X) → 1 ≤ often x ys → (rest : List X) × IsPermutation ys (x ∷ rest)
  at-front x [] some = absurd (omega (arith, some))
  at-front x (y ∷ ys) some = by (eq x y) refl (λ later. at-front x ys later)
    where
      by : (t : Bool) → eq x y ≡ t → (1 ≤ often x ys → (rest : List X) × IsPermutation ys (x ∷ rest)) → (rest : List X) × IsPermutation (y ∷ ys) (x ∷ rest)
      by true is again = (ys, subst (λ (z : X). IsPermutation (y ∷ ys) (z ∷ ys)) (sym (same x y is)) (IsPermutation-refl (y ∷ ys)))
      by false is again =
          let e = count-no (eq x) y ys is in
          let it = again (omega (arith, some, e)) in
          (y ∷ it.0, IsPermutation-trans (y ∷ ys) (y ∷ x ∷ it.0) (x ∷ y ∷ it.0) (IsPermutation-cons y ys (x ∷ it.0) it.1) (IsPermutation-middle (y ∷ []) x it.0))

  -- each as often: in another order
  pub from-often : (xs ys : List X) → ((x : X) → often x xs ≡ often x ys) → IsPermutation xs ys
  from-often [] [] all = IsPermutation-refl []
  from-often [] (y ∷ ys) all = let e = all y in let k = count-yes (eq y) y ys (self y) in absurd (omega (arith, e, k))
  from-often (x ∷ xs) ys all =
      let e = all x in
      let k = count-yes (eq x) x xs (self x) in
      let front = at-front x ys (omega (arith, e, k)) in
      let rest = from-often xs front.0 (λ z. fewer front.0 z (eq z x) refl (all z ∙ often-permuted z ys (x ∷ front.0) front.1)) in
      IsPermutation-trans (x ∷ xs) (x ∷ front.0) ys (IsPermutation-cons x xs front.0 rest) (IsPermutation-sym ys (x ∷ front.0) front.1)
    where
      fewer : (zs : List X) (z : X) (t : Bool) → eq z x ≡ t → often z (x ∷ xs) ≡ often z (x ∷ zs) → often z xs ≡ often z zs
      fewer zs z true is more = let a = count-yes (eq z) x xs is in let b = count-yes (eq z) x zs is in omega (arith, more, a, b)
      fewer zs z false is more = let a = count-no (eq z) x xs is in let b = count-no (eq z) x zs is in omega (arith, more, a, b)

  -- without the first of both
  pub tail-permuted : (x : X) (xs ys : List X) → IsPermutation (x ∷ xs) (x ∷ ys) → IsPermutation xs ys
  tail-permuted x xs ys whole = from-often xs ys (λ z. by z (eq z x) refl (often-permuted z (x ∷ xs) (x ∷ ys) whole))
    where
      by : (z : X) (t : Bool) → eq z x ≡ t → often z (x ∷ xs) ≡ often z (x ∷ ys) → often z xs ≡ often z ys
      by z true is all = let a = count-yes (eq z) x xs is in let b = count-yes (eq z) x ys is in omega (arith, all, a, b)
      by z false is all = let a = count-no (eq z) x xs is in let b = count-no (eq z) x ys is in omega (arith, all, a, b)

  -- ---- Two parts that a test tells apart

  module _ (p : X → Bool) where
    none-with : (t : Bool) (x : X) → p x ≡ not t → (ys : List X) → AllByRecursion (λ y. p y ≡ t) ys → often x ys ≡ 0
    none-with t x other [] all = refl
    none-with t x other (y ∷ ys) all = by (eq x y) refl (none-with t x other ys all.1)
      where
        clash : (b : Bool) → b ≡ not b → ⊥
        clash true e = true≢false e
        clash false e = true≢false (sym e)

        by : (b : Bool) → eq x y ≡ b → often x ys ≡ 0 → often x (y ∷ ys) ≡ 0
        by true is rest = absurd (clash t (sym all.0 ∙ ap p (sym (same x y is)) ∙ other))
        by false is rest = count-no (eq x) y ys is ∙ rest

    -- where the parts that pass are left out on both hands, what is left is in another order
    pub rest-permuted : (xs ys us vs : List X) → IsPermutation (xs ++ ys) (us ++ vs) → AllByRecursion (λ x. p x ≡ true) xs → AllByRecursion (λ x. p x ≡ true) us
        → AllByRecursion (λ x. p x ≡ false) ys → AllByRecursion (λ x. p x ≡ false) vs → IsPermutation ys vs
    rest-permuted xs ys us vs whole all too none nor = from-often ys vs (λ x. by x (p x) refl)
      where
        by : (x : X) (t : Bool) → p x ≡ t → often x ys ≡ often x vs
        by x true is = none-with false x is ys none ∙ sym (none-with false x is vs nor)
        by x false is =
            let a = often-append x xs ys in
            let b = often-append x us vs in
            let c = often-permuted x (xs ++ ys) (us ++ vs) whole in
            let d = none-with true x is xs all in
            let e = none-with true x is us too in
            omega (arith, a, b, c, d, e)

  -- ---- The parts of all elements

  none-goes : (a : X) (xs : List X) → AllByRecursion (λ x. a ≢ x) xs → filter (λ x. not (eq a x)) xs ≡ xs
  none-goes a [] other = refl
  none-goes a (x ∷ xs) other = by (eq a x) refl (none-goes a xs other.1)
    where
      by : (b : Bool) → eq a x ≡ b → filter (λ x. not (eq a x)) xs ≡ xs → filter (λ x. not (eq a x)) (x ∷ xs) ≡ x ∷ xs
      by true is rest = absurd (other.0 (same a x is))
      by false is rest = rw is (ap (λ (l : List X). x ∷ l) rest)

  -- those of one of them, and those of the others
  pub one-out : {A : Type 0} (f : X → List A) (a : X) (xs : List X) → EachPair (λ a b. a ≢ b) xs → Contains xs a → IsPermutation (flat_map f xs) (f a ++ flat_map f (filter (λ x. not (eq a x)) xs))
  one-out f a [] each there = let low = there.1 in absurd (omega (arith, low))
  one-out {A} f a (x ∷ xs) each there = by (eq a x) refl (Contains-cases x xs a there) (λ later. one-out f a xs each.1 later)
    where
      others : List X
      others = filter (λ x. not (eq a x)) xs

      by : (b : Bool) → eq a x ≡ b → (x ≡ a) ⊎ Contains xs a → (Contains xs a → IsPermutation (flat_map f xs) (f a ++ flat_map f others))
          → IsPermutation (f x ++ flat_map f xs) (f a ++ flat_map f (filter (λ x. not (eq a x)) (x ∷ xs)))
      by true is where_it again =
          let all : others ≡ xs = none-goes a xs (subst (λ (z : X). AllByRecursion (λ b. z ≢ b) xs) (sym (same a x is)) each.0) in
          rw (is, all) (subst (λ (z : X). IsPermutation (f x ++ flat_map f xs) (f z ++ flat_map f xs)) (sym (same a x is)) (IsPermutation-refl (f x ++ flat_map f xs)))
      by false is (inl here) again = absurd (true≢false (sym (self a) ∙ ap (eq a) (sym here) ∙ is))
      by false is (inr later) again =
          rw is (IsPermutation-trans (f x ++ flat_map f xs) (f x ++ (f a ++ flat_map f others)) (f a ++ (f x ++ flat_map f others)) (IsPermutation-append_right (f x) (flat_map f xs) (f a ++ flat_map f others) (again later))
          (front_exchanged (f x) (f a) (flat_map f others)))
