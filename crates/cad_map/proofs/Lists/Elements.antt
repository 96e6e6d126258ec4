-- The elements of lists: where they stand, how many pass a test, and the only one that does.
use Rattle.std.proofs.Common.{◌≡◌, ℕ, suc, ◌+◌, ◌≤◌, ◌⊎◌, inl, inr, refl, sym, ap, subst, ◌∙◌, List, [], ◌∷◌, ◌++◌, length, map, find, Some, None, Bool, true, false, cond, true≢false, arith, slice_get}
use Rattle.std.proofs.lemmas.List.Sums.{sum_by-cons}
use Rattle.std.proofs.lemmas.List.Sorted.{list_any-IsPermutation}
use Rattle.std.proofs.lemmas.List.Elements.{Contains-append_cases, Contains-append_left, Contains-append_right, Contains-push_cases}
use Rattle.std.proofs.lemmas.Option.{slice_get_within, get_or_from_slice_get}
use Rattle.std.specs.Prelude.{◌&&◌, ◌||◌, not, count_by, flat_map, IsPermutation}
use Rattle.std.specs.List.{AllByRecursion, Contains, list_all, list_any}

-- ---- Where elements stand

module _ {X : Type 0} where
  pub Contains-cases : (y : X) (ys : List X) (x : X) → Contains (y ∷ ys) x → (y ≡ x) ⊎ Contains ys x
  Contains-cases y ys x h = elim (Contains-append_cases (y ∷ []) ys x h) [
    | inl first ↦ elim (Contains-push_cases [] y x first) [ inl none ↦ let low = none.1 in absurd (omega arith) | inr is ↦ inl is ]
    | inr later ↦ inr later
  ]

  pub Contains-first : (x : X) (xs : List X) → Contains (x ∷ xs) x
  Contains-first x xs = (0, omega arith, refl)

  pub Contains-later : (y : X) (ys : List X) (x : X) → Contains ys x → Contains (y ∷ ys) x
  Contains-later y ys x h = Contains-append_right (y ∷ []) ys x h

  pub Contains-at : (xs : List X) (i : ℕ) (x : X) → slice_get xs i ≡ Some x → Contains xs x
  Contains-at xs i x h = (i, slice_get_within xs i x h, get_or_from_slice_get xs i x x h)

  pub All-at_each : (P : X → Type 0) (xs : List X) (x : X) → AllByRecursion P xs → Contains xs x → P x
  All-at_each P [] x all h = let low = h.1 in absurd (omega arith)
  All-at_each P (y ∷ ys) x all h = elim (Contains-cases y ys x h) [ inl is ↦ subst P is all.0 | inr later ↦ All-at_each P ys x all.1 later ]

module _ {X : Type 0} where
  pub Contains-flat_map : {Y : Type 0} (f : Y → List X) (ys : List Y) (y : Y) (x : X) → Contains ys y → Contains (f y) x → Contains (flat_map f ys) x
  Contains-flat_map f [] y x h k = let low = h.1 in absurd (omega arith)
  Contains-flat_map f (z ∷ ys) y x h k = elim (Contains-cases z ys y h) [
    | inl is ↦ Contains-append_left (f z) (flat_map f ys) x (subst (λ (l : List X). Contains l x) (ap f (sym is)) k)
    | inr later ↦ Contains-append_right (f z) (flat_map f ys) x (Contains-flat_map f ys y x later k)
  ]

  pub count-yes : (p : X → Bool) (x : X) (xs : List X) → p x ≡ true → count_by p (x ∷ xs) ≡ suc (count_by p xs)
  count-yes p x xs passes = sum_by-cons (λ (z : X). cond (p z) 1 0) x xs ∙ ap (λ (b : Bool). cond b 1 0 + count_by p xs) passes ∙ omega arith

  pub count-no : (p : X → Bool) (x : X) (xs : List X) → p x ≡ false → count_by p (x ∷ xs) ≡ count_by p xs
  count-no p x xs fails = sum_by-cons (λ (z : X). cond (p z) 1 0) x xs ∙ ap (λ (b : Bool). cond b 1 0 + count_by p xs) fails ∙ omega arith

  pub count-some : (p : X → Bool) (xs : List X) (x : X) → Contains xs x → p x ≡ true → 1 ≤ count_by p xs
  count-some p [] x h passes = let low = h.1 in absurd (omega arith)
  count-some p (y ∷ ys) x h passes = elim (Contains-cases y ys x h) [
    | inl is ↦ let e = count-yes p y ys (ap p is ∙ passes) in omega arith
    | inr later ↦ let e = sum_by-cons (λ (z : X). cond (p z) 1 0) y ys in let k = count-some p ys x later passes in omega arith
  ]

  -- where only one element passes a test, the test finds it
  pub find-only : (p : X → Bool) (xs : List X) (x : X) → count_by p xs ≤ 1 → Contains xs x → p x ≡ true → find p xs ≡ Some x
  find-only p [] x once h passes = let low = h.1 in absurd (omega arith)
  find-only p (y ∷ ys) x once h passes = by (p y) refl (Contains-cases y ys x h) (λ few later. find-only p ys x few later passes)
    where
      by : (b : Bool) → p y ≡ b → (y ≡ x) ⊎ Contains ys x → (count_by p ys ≤ 1 → Contains ys x → find p ys ≡ Some x) → find p (y ∷ ys) ≡ Some x
      by true is (inl same) again = ap (λ (b : Bool). cond b (Some y) (find p ys)) is ∙ ap Some same
      by true is (inr later) again = let e = count-yes p y ys is in let k = count-some p ys x later passes in absurd (omega arith)
      by false is (inl same) again = absurd (true≢false (sym passes ∙ ap p (sym same) ∙ is))
      by false is (inr later) again = let e = count-no p y ys is in ap (λ (b : Bool). cond b (Some y) (find p ys)) is ∙ again (omega arith) later

  pub one-only : (p : X → Bool) (xs : List X) (x y : X) → count_by p xs ≤ 1 → Contains xs x → Contains xs y → p x ≡ true → p y ≡ true → x ≡ y
  one-only p xs x y once h k passes too = let e : Some x ≡ Some y = sym (find-only p xs x once h passes) ∙ find-only p xs y once k too in cc

  pub count-map : {Y : Type 0} (f : Y → X) (p : X → Bool) (ys : List Y) → count_by p (map f ys) ≡ count_by (λ y. p (f y)) ys
  count-map f p [] = refl
  count-map f p (y ∷ ys) =
      let one = sum_by-cons (λ (z : X). cond (p z) 1 0) (f y) (map f ys) in
      let two = sum_by-cons (λ (z : _). cond (p (f z)) 1 0) y ys in
      let rest = count-map f p ys in
      omega arith

  -- the element after some, and the next one
  pub get-after : (xs : List X) (y : X) (ys : List X) → slice_get (xs ++ y ∷ ys) (length xs) ≡ Some y
  get-after [] y ys = refl
  get-after (x ∷ xs) y ys = get-after xs y ys

  pub get-next : (xs : List X) (y : X) (ys : List X) → slice_get (xs ++ y ∷ ys) (suc (length xs)) ≡ slice_get ys 0
  get-next [] y ys = refl
  get-next (x ∷ xs) y ys = get-next xs y ys

pub All-from_each : {X : Type 0} (P : X → Type 0) (xs : List X) → ((x : X) → Contains xs x → P x) → AllByRecursion P xs
All-from_each P [] each = tt
All-from_each P (x ∷ xs) each = (each x (Contains-first x xs), All-from_each P xs (λ y h. each y (Contains-later x xs y h)))

-- ---- Tests of elements

pub list_any-Contains : {X : Type 0} (p : X → Bool) (xs : List X) (x : X) → Contains xs x → p x ≡ true → list_any p xs ≡ true
list_any-Contains p [] x h passes = let low = h.1 in absurd (omega arith)
list_any-Contains p (y ∷ ys) x h passes = by (p y) refl (Contains-cases y ys x h) (λ later. list_any-Contains p ys x later passes)
  where
    by : (b : Bool) → p y ≡ b → (y ≡ x) ⊎ Contains ys x → (Contains ys x → list_any p ys ≡ true) → list_any p (y ∷ ys) ≡ true
    by true is where_it again = rw is refl
    by false is (inl same) again = absurd (true≢false (sym passes ∙ ap p (sym same) ∙ is))
    by false is (inr later) again = rw is (again later)

list_all-any : {X : Type 0} (p : X → Bool) (xs : List X) → list_all p xs ≡ not (list_any (λ x. not (p x)) xs)
list_all-any p [] = refl
list_all-any p (x ∷ xs) = by (p x) (list_all-any p xs)
  where
    by : (b : Bool) → list_all p xs ≡ not (list_any (λ x. not (p x)) xs) → (b && list_all p xs) ≡ not (not b || list_any (λ x. not (p x)) xs)
    by true rest = rest
    by false rest = refl

-- a test of all elements, in whatever order they stand
pub list_all-IsPermutation : {X : Type 0} (p : X → Bool) (xs ys : List X) → IsPermutation xs ys → list_all p xs ≡ list_all p ys
list_all-IsPermutation p xs ys h = list_all-any p xs ∙ ap not (list_any-IsPermutation (λ x. not (p x)) xs ys h) ∙ sym (list_all-any p ys)

-- tests that agree on the elements
pub list_all-same : {X : Type 0} (p q : X → Bool) (xs : List X) → ((x : X) → Contains xs x → p x ≡ q x) → list_all p xs ≡ list_all q xs
list_all-same p q [] same = refl
list_all-same p q (x ∷ xs) same = λ i. same x (Contains-first x xs) i && list_all-same p q xs (λ y h. same y (Contains-later x xs y h)) i

pub Contains-map : {X Y : Type 0} (f : X → Y) (xs : List X) (x : X) → Contains xs x → Contains (map f xs) (f x)
Contains-map f [] x h = let low = h.1 in absurd (omega arith)
Contains-map f (y ∷ ys) x h = elim (Contains-cases y ys x h) [
  | inl is ↦ subst (Contains (f y ∷ map f ys)) (ap f is) (Contains-first (f y) (map f ys))
  | inr later ↦ Contains-later (f y) (map f ys) (f x) (Contains-map f ys x later)
]

pub Contains-in_part : {X Y : Type 0} (f : Y → List X) (ys : List Y) (x : X) → Contains (flat_map f ys) x → (y : Y) × Contains ys y × Contains (f y) x
Contains-in_part f [] x h = let low = h.1 in absurd (omega arith)
Contains-in_part f (y ∷ ys) x h = elim (Contains-append_cases (f y) (flat_map f ys) x h) [
  | inl here ↦ (y, Contains-first y ys, here)
  | inr there ↦ let found = Contains-in_part f ys x there in (found.0, Contains-later y ys found.0 found.1, found.2)
]

pub find-none : {X Y : Type 0} (p : Y → Bool) (f : X → Y) (xs : List X) → list_any p (map f xs) ≡ false → find (λ x. p (f x)) xs ≡ None
find-none p f [] none = refl
find-none p f (x ∷ xs) none = by (p (f x)) refl none (λ h. find-none p f xs h)
  where
    by : (b : Bool) → p (f x) ≡ b → (p (f x) || list_any p (map f xs)) ≡ false → (list_any p (map f xs) ≡ false → find (λ x. p (f x)) xs ≡ None) → find (λ x. p (f x)) (x ∷ xs) ≡ None
    by true is h again = absurd (true≢false (rw is at h))
    by false is h again = rw is (again (rw is at h))
