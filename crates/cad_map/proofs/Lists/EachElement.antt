-- Facts of each element, and of each pair, where a list grows, shrinks or changes in one place.
use Rattle.std.proofs.Common.{◌≡◌, ◌≢◌, ℕ, zero, suc, ◌≤◌, ◌<◌, subst, slice_index_or, slice_get, drop, ◌+◌, add-one, List, [], ◌∷◌, ◌++◌, length, Bool, true, false, cond, nat_eq, map, filter, Option, Some, None, is_some, refl, sym, ap, ◌∙◌, true≢false, arith}
use Rattle.std.specs.Prelude.{IsTrue, IsPermutation, if◌then◌else◌}
use Rattle.std.proofs.lemmas.List.{drop_all}
use Rattle.std.proofs.lemmas.List.Sorted.{IsPermutation-sym, Contains-permutation}
use Rattle.std.specs.List.{AllByRecursion, Contains, flat_map, list_any}
use Rattle.std.proofs.lemmas.Bool.{eqb-true}
use Rattle.std.proofs.lemmas.Cmp.{nat_eq_equiv}
use Rattle.numbered_rows.specs.Rows.{row_with, without_row, with_row}
use Rattle.cad_map.specs.Valid.{EachPair}

module _ {X : Type 0} (P : X → Type 0) where
  pub All-push : (xs : List X) (x : X) → AllByRecursion P xs → P x → AllByRecursion P (xs ++ x ∷ [])
  All-push [] x all holds = (holds, tt)
  All-push (y ∷ xs) x all holds = (all.0, All-push xs x all.1 holds)

  pub All-filter : (test : X → Bool) (xs : List X) → AllByRecursion P xs → AllByRecursion P (filter test xs)
  All-filter test [] all = tt
  All-filter test (x ∷ xs) all = by (All-filter test xs all.1) (test x) refl
    where
      by : AllByRecursion P (filter test xs) → (b : Bool) → test x ≡ b → AllByRecursion P (filter test (x ∷ xs))
      by rest true is = rw is (all.0, rest)
      by rest false is = rw is rest

  pub All-map : {Y : Type 0} (f : Y → X) (ys : List Y) → AllByRecursion (λ y. P (f y)) ys → AllByRecursion P (map f ys)
  All-map f [] all = tt
  All-map f (y ∷ ys) all = (all.0, All-map f ys all.1)

  -- a fact goes over to another that follows from it
  pub All-follows : (Q : X → Type 0) → ((x : X) → P x → Q x) → (xs : List X) → AllByRecursion P xs → AllByRecursion Q xs
  All-follows Q follows [] all = tt
  All-follows Q follows (x ∷ xs) all = (follows x all.0, All-follows Q follows xs all.1)

pub All-filter-map : {X Y : Type 0} (P : X → Type 0) (f : Y → X) (test : Y → Bool) (ys : List Y) → AllByRecursion P (map f ys) → AllByRecursion P (map f (filter test ys))
All-filter-map P f test [] all = tt
All-filter-map P f test (y ∷ ys) all = by (All-filter-map P f test ys all.1) (test y) refl
  where
    by : AllByRecursion P (map f (filter test ys)) → (b : Bool) → test y ≡ b → AllByRecursion P (map f (filter test (y ∷ ys)))
    by rest true is = rw is (all.0, rest)
    by rest false is = rw is rest

module _ {X : Type 0} (R : X → X → Type 0) where
  -- a last element, to which each one stands in the relation
  pub EachPair-push : (xs : List X) (x : X) → EachPair R xs → AllByRecursion (λ y. R y x) xs → EachPair R (xs ++ x ∷ [])
  EachPair-push [] x each all = (tt, tt)
  EachPair-push (y ∷ xs) x each all = (All-push (R y) xs x each.0 all.0, EachPair-push xs x each.1 all.1)

  pub EachPair-filter-map : {Y : Type 0} (f : Y → X) (test : Y → Bool) (ys : List Y) → EachPair R (map f ys) → EachPair R (map f (filter test ys))
  EachPair-filter-map f test [] each = tt
  EachPair-filter-map f test (y ∷ ys) each = by (EachPair-filter-map f test ys each.1) (test y) refl
    where
      by : EachPair R (map f (filter test ys)) → (b : Bool) → test y ≡ b → EachPair R (map f (filter test (y ∷ ys)))
      by rest true is = rw is (All-filter-map (R (f y)) f test ys each.0, rest)
      by rest false is = rw is rest

module _ {R : Type 0} (number : R → ℕ) where
  pub map-push : (rows : List R) (row : R) → map number (rows ++ row ∷ []) ≡ map number rows ++ number row ∷ []
  map-push [] row = refl
  map-push (r ∷ rows) row = ap (λ (ns : List ℕ). number r ∷ ns) (map-push rows row)

  -- a row that is found is found among more rows too
  pub found-push : (n : ℕ) (rows : List R) (row : R) → IsTrue (is_some (row_with number n rows)) → IsTrue (is_some (row_with number n (rows ++ row ∷ [])))
  found-push n [] row found = absurd (true≢false (sym found))
  found-push n (r ∷ rows) row found = by (λ rest. found-push n rows row rest) (nat_eq (number r) n) refl
    where
      by : (IsTrue (is_some (row_with number n rows)) → IsTrue (is_some (row_with number n (rows ++ row ∷ [])))) → (b : Bool) → nat_eq (number r) n ≡ b → IsTrue (is_some (row_with number n (r ∷ rows ++ row ∷ [])))
      by again true is = rw is refl
      by again false is = rw is (again (sym (ap (λ (b : Bool). is_some (cond b (Some r) (row_with number n rows))) is) ∙ found))

  -- a row in the place of another of the same number leaves the numbers
  pub map-with_row : (new : R) (rows : List R) → map number (with_row number new rows) ≡ map number rows
  map-with_row new [] = refl
  map-with_row new (r ∷ rows) = by (map-with_row new rows) (nat_eq (number r) (number new)) refl
    where
      by : map number (with_row number new rows) ≡ map number rows → (b : Bool) → nat_eq (number r) (number new) ≡ b → map number (with_row number new (r ∷ rows)) ≡ map number (r ∷ rows)
      by rest true is = ap (λ (b : Bool). number (if b then new else r) ∷ map number (with_row number new rows)) is ∙ ap (λ (ns : List ℕ). number new ∷ ns) rest ∙ ap (λ (k : ℕ). k ∷ map number rows) (sym (eqb-true (number r) (number new) is))
      by rest false is = ap (λ (b : Bool). number (if b then new else r) ∷ map number (with_row number new rows)) is ∙ ap (λ (ns : List ℕ). number r ∷ ns) rest

  pub length-with_row : (new : R) (rows : List R) → length (with_row number new rows) ≡ length rows
  length-with_row new [] = refl
  length-with_row new (r ∷ rows) = ap (λ (n : ℕ). suc n) (length-with_row new rows)

  -- a fact of each row and of the new one
  pub All-with_row : (P : R → Type 0) (new : R) (rows : List R) → AllByRecursion P rows → P new → AllByRecursion P (with_row number new rows)
  All-with_row P new [] all holds = tt
  All-with_row P new (r ∷ rows) all holds = (by (nat_eq (number r) (number new)), All-with_row P new rows all.1 holds)
    where
      by : (b : Bool) → P (if b then new else r)
      by true = holds
      by false = all.0

  pub found-number : (n : ℕ) (rows : List R) (row : R) → row_with number n rows ≡ Some row → number row ≡ n
  found-number n [] row found = cc
  found-number n (r ∷ rows) row found = by (λ rest. found-number n rows row rest) (nat_eq (number r) n) refl
    where
      by : (row_with number n rows ≡ Some row → number row ≡ n) → (b : Bool) → nat_eq (number r) n ≡ b → number row ≡ n
      by again true is =
          let here : Some r ≡ Some row = sym (ap (λ (b : Bool). cond b (Some r) (row_with number n rows)) is) ∙ found in
          let same : r ≡ row = cc in
          ap number (sym same) ∙ eqb-true (number r) n is
      by again false is = again (sym (ap (λ (b : Bool). cond b (Some r) (row_with number n rows)) is) ∙ found)

  pub length-without_row : (n : ℕ) (rows : List R) → length (without_row number n rows) ≤ length rows
  length-without_row n [] = omega arith
  length-without_row n (r ∷ rows) = by (length-without_row n rows) (nat_eq (number r) n) refl
    where
      by : length (without_row number n rows) ≤ length rows → (b : Bool) → nat_eq (number r) n ≡ b → length (without_row number n (r ∷ rows)) ≤ length (r ∷ rows)
      by rest true is = rw is (omega (arith, rest))
      by rest false is = rw is (omega (arith, rest))

  -- a row that is found has the number, and is found by it
  pub found-again : (n : ℕ) (rows : List R) (row : R) → row_with number n rows ≡ Some row → is_some (row_with number (number row) rows) ≡ true
  found-again n rows row found = ap (λ (k : ℕ). is_some (row_with number k rows)) (found-number n rows row found) ∙ ap (λ (o : Option R). is_some o) found

  either-found : (b : Bool) (x y : R) (o p : Option R) → is_some o ≡ is_some p → is_some (cond b (Some x) o) ≡ is_some (cond b (Some y) p)
  either-found true x y o p same = refl
  either-found false x y o p same = same

  -- where there is a row with the number, there is one too after another row took the place of one of its own number
  pub found-with_row : (n : ℕ) (new : R) (rows : List R) → is_some (row_with number n (with_row number new rows)) ≡ is_some (row_with number n rows)
  found-with_row n new [] = refl
  found-with_row n new (r ∷ rows) = by (nat_eq (number r) (number new)) refl (found-with_row n new rows)
    where
      by : (b : Bool) → nat_eq (number r) (number new) ≡ b → is_some (row_with number n (with_row number new rows)) ≡ is_some (row_with number n rows)
          → is_some (row_with number n (with_row number new (r ∷ rows))) ≡ is_some (row_with number n (r ∷ rows))
      by true is rest =
          ap (λ (b : Bool). is_some (row_with number n ((if b then new else r) ∷ with_row number new rows))) is
          ∙ ap (λ (k : ℕ). is_some (cond (nat_eq k n) (Some new) (row_with number n (with_row number new rows)))) (sym (eqb-true (number r) (number new) is))
          ∙ either-found (nat_eq (number r) n) new r (row_with number n (with_row number new rows)) (row_with number n rows) rest
      by false is rest =
          ap (λ (b : Bool). is_some (row_with number n ((if b then new else r) ∷ with_row number new rows))) is
          ∙ either-found (nat_eq (number r) n) r r (row_with number n (with_row number new rows)) (row_with number n rows) rest

  -- a row of another number stays
  pub found-without : (n p : ℕ) (rows : List R) → n ≢ p → IsTrue (is_some (row_with number n rows)) → IsTrue (is_some (row_with number n (without_row number p rows)))
  found-without n p [] other found = absurd (true≢false (sym found))
  found-without n p (r ∷ rows) other found = by (λ rest. found-without n p rows other rest) (nat_eq (number r) p) (nat_eq (number r) n) refl refl
    where
      by : (IsTrue (is_some (row_with number n rows)) → IsTrue (is_some (row_with number n (without_row number p rows)))) → (b c : Bool) → nat_eq (number r) p ≡ b → nat_eq (number r) n ≡ c
          → IsTrue (is_some (row_with number n (without_row number p (r ∷ rows))))
      by again true true isb isc = absurd (other (sym (eqb-true (number r) n isc) ∙ eqb-true (number r) p isb))
      by again true false isb isc = rw isb (again (sym (ap (λ (b : Bool). is_some (cond b (Some r) (row_with number n rows))) isc) ∙ found))
      by again false true isb isc = rw (isb, isc) refl
      by again false false isb isc = rw (isb, isc) (again (sym (ap (λ (b : Bool). is_some (cond b (Some r) (row_with number n rows))) isc) ∙ found))

  -- where no row has the new one's number, none changes
  with_row-none : {X : Type 0} (f : R → X) (new : R) (k : ℕ) (rows : List R) → k ≡ number new → AllByRecursion (λ b. k ≢ b) (map number rows) → map f (with_row number new rows) ≡ map f rows
  with_row-none f new k [] is all = refl
  with_row-none {X} f new k (q ∷ rows) is all = by (nat_eq (number q) (number new)) refl (with_row-none f new k rows is all.1)
    where
      by : (b : Bool) → nat_eq (number q) (number new) ≡ b → map f (with_row number new rows) ≡ map f rows → map f (with_row number new (q ∷ rows)) ≡ map f (q ∷ rows)
      by true it rest = absurd (all.0 (is ∙ sym (eqb-true (number q) (number new) it)))
      by false it rest = ap (λ (b : Bool). f (if b then new else q) ∷ map f (with_row number new rows)) it ∙ ap (λ (xs : List X). f q ∷ xs) rest

  -- what a row has in common with the one whose place it takes, all rows keep
  pub map-with_row-same : {X : Type 0} (f : R → X) (new row : R) (rows : List R) → EachPair (λ a b. a ≢ b) (map number rows) → row_with number (number new) rows ≡ Some row → f new ≡ f row → map f (with_row number new rows) ≡ map f rows
  map-with_row-same f new row [] each found same = refl
  map-with_row-same {X} f new row (r ∷ rows) each found same = by (λ rest. map-with_row-same f new row rows each.1 rest same) (nat_eq (number r) (number new)) refl
    where
      by : (row_with number (number new) rows ≡ Some row → map f (with_row number new rows) ≡ map f rows) → (b : Bool) → nat_eq (number r) (number new) ≡ b → map f (with_row number new (r ∷ rows)) ≡ map f (r ∷ rows)
      by again true is =
          let here : Some r ≡ Some row = sym (ap (λ (b : Bool). cond b (Some r) (row_with number (number new) rows)) is) ∙ found in
          let at : r ≡ row = cc in
          ap (λ (b : Bool). f (if b then new else r) ∷ map f (with_row number new rows)) is
          ∙ ap (λ (xs : List X). f new ∷ xs) (with_row-none f new (number r) rows (eqb-true (number r) (number new) is) each.0)
          ∙ ap (λ (x : X). x ∷ map f rows) (same ∙ ap f (sym at))
      by again false is =
          ap (λ (b : Bool). f (if b then new else r) ∷ map f (with_row number new rows)) is
          ∙ ap (λ (xs : List X). f r ∷ xs) (again (sym (ap (λ (b : Bool). cond b (Some r) (row_with number (number new) rows)) is) ∙ found))

-- ---- Elements in another order

module _ {X : Type 0} (P : X → Type 0) where
  All-at : (xs : List X) (k : ℕ) (x : X) → AllByRecursion P xs → k < length xs → slice_index_or xs k x ≡ x → P x
  All-at [] k x all h is = absurd (omega arith)
  All-at (y ∷ xs) zero x all h is = subst P is all.0
  All-at (y ∷ xs) (suc k) x all h is = All-at xs k x all.1 (omega arith) is

  pub All-Contains : (xs : List X) (x : X) → AllByRecursion P xs → Contains xs x → P x
  All-Contains xs x all has = All-at xs has.0 x all has.1 has.2

  pub All-from_Contains : (xs : List X) → ((x : X) → Contains xs x → P x) → AllByRecursion P xs
  All-from_Contains [] has = tt
  All-from_Contains (x ∷ xs) has = (has x (0, omega arith, refl), All-from_Contains xs (λ y there. has y (suc there.0, omega (arith, there.1), there.2)))

  pub All-permuted : (xs ys : List X) → IsPermutation xs ys → AllByRecursion P xs → AllByRecursion P ys
  All-permuted xs ys p all = All-from_Contains ys (λ y has. All-Contains xs y all (Contains-permutation ys xs y (IsPermutation-sym xs ys p) has))

  pub All-append : (xs ys : List X) → AllByRecursion P (xs ++ ys) → AllByRecursion P xs × AllByRecursion P ys
  All-append [] ys all = (tt, all)
  All-append (x ∷ xs) ys all = let rest = All-append xs ys all.1 in ((all.0, rest.0), rest.1)

  -- a fact of each element of lists that are laid one after the other
  pub All-flat_map : {Y : Type 0} (f : Y → List X) (ys : List Y) → AllByRecursion P (flat_map f ys) → AllByRecursion (λ y. AllByRecursion P (f y)) ys
  All-flat_map f [] all = tt
  All-flat_map f (y ∷ ys) all = let both = All-append (f y) (flat_map f ys) all in (both.0, All-flat_map f ys both.1)

-- ---- What is left of a list from a place on

-- the element at a place comes first of what is left
pub drop-at : {X : Type 0} (xs : List X) (i : ℕ) (x : X) → slice_get xs i ≡ Some x → drop i xs ≡ x ∷ drop (i + 1) xs
drop-at [] i x at = cc
drop-at (y ∷ xs) zero x at = let same : y ≡ x = cc in ap (λ (z : _). z ∷ xs) same
drop-at (y ∷ xs) (suc i) x at = rw (add-one (suc i)) (drop-at xs i x at ∙ ap (λ (n : ℕ). x ∷ drop n xs) (add-one i))

-- what is left decides whether any passes a test

module _ {X : Type 0} (test : X → Bool) (xs : List X) (i : ℕ) (x : X) (at : slice_get xs i ≡ Some x) where
  pub any-stops : test x ≡ true → list_any test (drop i xs) ≡ true
  any-stops passes = rw (drop-at xs i x at, passes) refl

  pub any-goes : test x ≡ false → list_any test (drop i xs) ≡ list_any test (drop (i + 1) xs)
  any-goes fails = rw (drop-at xs i x at, fails) refl

-- past the last element none has passed
pub any-done : {X : Type 0} (test : X → Bool) (xs : List X) (i : ℕ) → length xs ≤ i → list_any test (drop i xs) ≡ false
any-done test xs i past = rw (drop_all i xs past) refl

-- how many elements from a place on pass a test: the one at the place, and those after it
pub count-at : {X : Type 0} (test : X → Bool) (xs : List X) (i : ℕ) (x : X) → slice_get xs i ≡ Some x → length (filter test (drop i xs)) ≡ cond (test x) 1 0 + length (filter test (drop (i + 1) xs))
count-at test xs i x at = rw (drop-at xs i x at) (by (test x))
  where
    by : (b : Bool) → length (cond b (x ∷ filter test (drop (i + 1) xs)) (filter test (drop (i + 1) xs))) ≡ cond b 1 0 + length (filter test (drop (i + 1) xs))
    by true = omega arith
    by false = omega arith

-- those from a place on that pass a test: where the element there does, it and those after it, and else those after it
pub filter-at : {X : Type 0} (test : X → Bool) (xs : List X) (i : ℕ) (x : X) → slice_get xs i ≡ Some x → test x ≡ true → filter test (drop i xs) ≡ x ∷ filter test (drop (i + 1) xs)
filter-at test xs i x at passes = ap (filter test) (drop-at xs i x at) ∙ rw passes refl

pub filter-past : {X : Type 0} (test : X → Bool) (xs : List X) (i : ℕ) (x : X) → slice_get xs i ≡ Some x → test x ≡ false → filter test (drop i xs) ≡ filter test (drop (i + 1) xs)
filter-past test xs i x at fails = ap (filter test) (drop-at xs i x at) ∙ rw fails refl

-- a count up to a place, and the one that it is at the next place
pub count-next : {X : Type 0} (test : X → Bool) (xs : List X) (i : ℕ) (x : X) (count one all : ℕ) → slice_get xs i ≡ Some x → one ≡ cond (test x) 1 0 → (count ≤ i) × (count + length (filter test (drop i xs)) ≡ all)
    → (count + one ≤ i + 1) × ((count + one) + length (filter test (drop (i + 1) xs)) ≡ all)
count-next test xs i x count one all at is before = by (test x) refl
  where
    by : (b : Bool) → test x ≡ b → (count + one ≤ i + 1) × ((count + one) + length (filter test (drop (i + 1) xs)) ≡ all)
    by true it = let more = count-at test xs i x at in let e : one ≡ 1 = is ∙ simp it in let m = rw it at more in (omega (arith, e, before.0), omega (arith, e, m, before.1))
    by false it = let more = count-at test xs i x at in let e : one ≡ 0 = is ∙ simp it in let m = rw it at more in (omega (arith, e, before.0), omega (arith, e, m, before.1))

-- what holds of each element holds of the one at a place
pub all-at : {X : Type 0} (P : X → Type 0) (xs : List X) (i : ℕ) (x : X) → slice_get xs i ≡ Some x → AllByRecursion P xs → P x
all-at P [] i x at all = cc
all-at P (y ∷ xs) zero x at all = let same : y ≡ x = cc in subst P same all.0
all-at P (y ∷ xs) (suc i) x at all = all-at P xs i x at all.1
