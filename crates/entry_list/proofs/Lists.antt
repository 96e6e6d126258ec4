-- Lists: entries, edits at a place, lists that agree.
use Rattle.std.proofs.Common.{◌≡◌, ℕ, zero, suc, ◌+◌, ◌<◌, ◌≤◌, List, [], ◌∷◌, ◌++◌, length, get_or, set, insert, remove, slice_get, Option, Some, Bool, true, false, nat_eq, refl, sym, ap, subst, arith, ◌∙◌, true≢false, ◌⊎◌, inl, inr, get_or-set_other}
use Rattle.std.proofs.lemmas.Bool.{eqb-true, eq-eqb, cases_eq, cases_lt}
use Rattle.std.specs.List.{AllByRecursion}
use Rattle.std.specs.Map.{keys_of, values_of}
use Rattle.std.proofs.lemmas.Grind.{get_or-set_at}
use Rattle.entry_list.specs.Slots.{Slots}

-- what stands behind the first of two lists that are put together
pub slice_get-seam : {X : Type 0} (xs : List X) (y : X) (ys : List X)
    → slice_get (xs ++ y ∷ ys) (length xs) ≡ Some y
slice_get-seam [] y ys = refl
slice_get-seam (x ∷ xs) y ys = slice_get-seam xs y ys

pub remove-seam : {X : Type 0} (xs : List X) (y : X) (ys : List X)
    → remove (xs ++ y ∷ ys) (length xs) ≡ xs ++ ys
remove-seam [] y ys = refl
remove-seam (x ∷ xs) y ys = ap (λ zs. x ∷ zs) (remove-seam xs y ys)

pub insert-seam : {X : Type 0} (xs : List X) (y : X) (ys : List X)
    → insert (xs ++ ys) (length xs) y ≡ xs ++ y ∷ ys
insert-seam [] y ys = refl
insert-seam (x ∷ xs) y ys = ap (λ zs. x ∷ zs) (insert-seam xs y ys)

pub some-pair : {X Y : Type 0} (a b : X × Y) → Some a ≡ Some b → a ≡ b
some-pair a b h = cc

-- what two equal entries have in common
pub entry-keys : {X Y : Type 0} (j k : X) (o q : Y) → ◌≡◌ {A =
    Option (X × Y)} (Some (j, o)) (Some (k, q)) → j ≡ k
entry-keys {X} {Y} j k o q h =
    let a : X × Y = (j, o) in
    let b : X × Y = (k, q) in let e : a ≡ b = some-pair a b h in ap (λ (p : X × Y). p.0) e

pub entry-values : {X Y : Type 0} (j k : X) (o q : Y) → ◌≡◌ {A =
    Option (X × Y)} (Some (j, o)) (Some (k, q)) → o ≡ q
entry-values {X} {Y} j k o q h =
    let a : X × Y = (j, o) in
    let b : X × Y = (k, q) in let e : a ≡ b = some-pair a b h in ap (λ (p : X × Y). p.1) e

-- the number of the entry at i
pub slice_get-keys : {X : Type 0} (i : ℕ) (es : List (ℕ × X)) (k : ℕ) (o : X)
    → slice_get es i ≡ Some (k, o) → slice_get (keys_of es) i ≡ Some k
slice_get-keys i [] k o h = cc
slice_get-keys zero ((j, q) ∷ es) k o h = let e : j ≡ k = entry-keys j k q o h in rw e refl
slice_get-keys (suc i) (e ∷ es) k o h = slice_get-keys i es k o h

pub slice_get-values : {X : Type 0} (i : ℕ) (es : List (ℕ × X)) (k : ℕ) (o : X)
    → slice_get es i ≡ Some (k, o) → slice_get (values_of es) i ≡ Some o
slice_get-values i [] k o h = cc
slice_get-values zero ((j, q) ∷ es) k o h = let e : q ≡ o = entry-values j k q o h in rw e refl
slice_get-values (suc i) (e ∷ es) k o h = slice_get-values i es k o h

pub other-way : (a b : ℕ) → nat_eq a b ≡ false → nat_eq b a ≡ false
other-way a b h = by (nat_eq b a) refl
  where
    by : (x : Bool) → nat_eq b a ≡ x → x ≡ false
    by true e = absurd (true≢false (sym (eq-eqb a b (sym (eqb-true b a e))) ∙ h))
    by false e = refl

pub all-at : (j n p : ℕ) (ks : List ℕ) → slice_get ks p ≡ Some n
    → AllByRecursion (λ y. nat_eq j y ≡ false) ks → nat_eq j n ≡ false
all-at j n p [] h a = cc
all-at j n zero (k ∷ ks) h a =
    let e : k ≡ n = inj k n h in
    subst (λ (x : ℕ). nat_eq j x ≡ false) e a.0
  where
    inj : (x y : ℕ) → Some x ≡ Some y → x ≡ y
    inj x y h = cc
all-at j n (suc p) (k ∷ ks) h a = all-at j n p ks h a.1

-- two lists of one length that agree at each place are one
pub same-lists : (xs ys : List ℕ) → length xs ≡ length ys
    → ((k : ℕ) → k < length xs → get_or xs k 0 ≡ get_or ys k 0) → xs ≡ ys
same-lists [] [] l h = refl
same-lists [] (y ∷ ys) l h = absurd (omega arith)
same-lists (x ∷ xs) [] l h = absurd (omega arith)
same-lists (x ∷ xs) (y ∷ ys) l h =
    let a : x ≡ y = h 0 (omega arith) in
    let b : xs ≡ ys = same-lists xs ys (omega arith) (λ k u. h (suc k) (omega arith)) in
    rw (a, b) refl

agree-by : (i k y : ℕ) (xs ys : List ℕ) → i < length xs → y ≡ get_or ys i 0
    → (k < i → get_or xs k 0 ≡ get_or ys k 0) → k < i + 1 → (k ≡ i) ⊎ (k ≡ i → ⊥)
    → get_or (set xs i y) k 0 ≡ get_or ys k 0
agree-by i k y xs ys l e h u (inl same) =
    get_or-set_at xs i k y 0 same l ∙ (e ∙ ap (λ j. get_or ys j 0) (sym same))
agree-by i k y xs ys l e h u (inr ne) = get_or-set_other xs i k y 0 ne ∙ h (omega arith)

-- a mark that is set agrees, and those that agreed do
pub agree-past : (i k y : ℕ) (xs ys : List ℕ) → i < length xs → y ≡ get_or ys i 0
    → get_or xs k 0 ≡ get_or ys k 0 → get_or (set xs i y) k 0 ≡ get_or ys k 0
agree-past i k y xs ys l e h = by-case (cases_eq k i)
  where
    by-case : (k ≡ i) ⊎ (k ≡ i → ⊥) → get_or (set xs i y) k 0 ≡ get_or ys k 0
    by-case (inl same) =
        get_or-set_at xs i k y 0 same l ∙ (e ∙ ap (λ j. get_or ys j 0) (sym same))
    by-case (inr ne) = get_or-set_other xs i k y 0 ne ∙ h

-- two lists of one length that agree before i and behind an earlier place are one
pub agree-all : (i last : ℕ) (xs ys : List ℕ) → length xs ≡ length ys → last < i
    → ((k : ℕ) → k < i → get_or xs k 0 ≡ get_or ys k 0)
    → ((k : ℕ) → last < k → get_or xs k 0 ≡ get_or ys k 0) → xs ≡ ys
agree-all i last xs ys l u before behind = same-lists xs ys l (λ k _. by-case k (cases_lt k i))
  where
    by-case : (k : ℕ) → (k < i) ⊎ (i ≤ k) → get_or xs k 0 ≡ get_or ys k 0
    by-case k (inl h) = before k h
    by-case k (inr h) = behind k (omega arith)

-- one more mark is set
pub agree-more : (i k y : ℕ) (xs ys : List ℕ) → i < length xs → y ≡ get_or ys i 0
    → (k < i → get_or xs k 0 ≡ get_or ys k 0) → k < i + 1
    → get_or (set xs i y) k 0 ≡ get_or ys k 0
agree-more i k y xs ys l e h u = agree-by i k y xs ys l e h u (cases_eq k i)

module _ {V : Type 0} where
  -- the entry that is read where one stands
  pub get-from : (i : ℕ) (es : Slots V) (d e : ℕ × Option V) → slice_get es i ≡ Some e
      → get_or es i d ≡ e
  get-from i [] d e h = cc
  get-from zero (x ∷ es) d e h = some-pair x e h
  get-from (suc i) (x ∷ es) d e h = get-from i es d e h

  pub insert-last : (xs : List (ℕ × V)) (x : ℕ × V) → insert xs (length xs) x ≡ xs ++ x ∷ []
  insert-last [] x = refl
  insert-last (y ∷ xs) x = ap (λ zs. y ∷ zs) (insert-last xs x)

  -- a row that is taken out and put in at its place again gives the rows as they were
  pub insert-back : (p : ℕ) (xs : List (ℕ × V)) (x : ℕ × V) → slice_get xs p ≡ Some x
      → insert (remove xs p) p x ≡ xs
  insert-back p [] x h = cc
  insert-back zero (y ∷ xs) x h = ap (λ z. z ∷ xs) (sym (some-pair y x h))
  insert-back (suc p) (y ∷ xs) x h = ap (λ ys. y ∷ ys) (insert-back p xs x h)
