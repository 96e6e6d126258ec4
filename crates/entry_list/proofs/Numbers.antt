-- Rows by their numbers, no two of which are the same.
use Rattle.std.proofs.Common.{◌≡◌, ℕ, zero, suc, List, [], ◌∷◌, set, insert, remove, slice_get, Option, None, Some, Bool, true, false, cond, nat_eq, refl, ap, subst}
use Rattle.std.proofs.lemmas.Bool.{eq-eqb}
use Rattle.std.specs.List.{IsDistinct, AllByRecursion}
use Rattle.std.specs.Map.{lookup, keys_of}
use Rattle.entry_list.specs.Slots.{Slots, rows_of, without_number, with_number}
use Rattle.entry_list.proofs.Lists.{all-at, entry-keys, entry-values, other-way, slice_get-keys}

apart-from : (j n : ℕ) (ks : List ℕ) → j ≡ n → AllByRecursion (λ y. nat_eq j y ≡ false) ks
    → AllByRecursion (λ y. nat_eq n y ≡ false) ks
apart-from j n ks e h = subst (λ (x : ℕ). AllByRecursion (λ y. nat_eq x y ≡ false) ks) e h

module _ {V : Type 0} where
  rows-apart : (k : ℕ) (es : Slots V) → AllByRecursion (λ y. nat_eq k y ≡ false) (keys_of es)
      → AllByRecursion (λ y. nat_eq k y ≡ false) (keys_of (rows_of es))
  rows-apart k [] h = h
  rows-apart k ((j, None) ∷ es) h = rows-apart k es h.1
  rows-apart k ((j, Some v) ∷ es) h = (h.0, rows-apart k es h.1)

  -- no two rows have one number
  pub rows-distinct : (es : Slots V) → IsDistinct nat_eq (keys_of es)
      → IsDistinct nat_eq (keys_of (rows_of es))
  unfolding IsDistinct
  rows-distinct [] d = d
  rows-distinct ((j, None) ∷ es) d = rows-distinct es d.1
  rows-distinct ((j, Some v) ∷ es) d = (rows-apart j es d.0, rows-distinct es d.1)

  without-apart : (n : ℕ) (xs : List (ℕ × V))
      → AllByRecursion (λ y. nat_eq n y ≡ false) (keys_of xs) → without_number n xs ≡ xs
  without-apart n [] h = refl
  without-apart n (x ∷ xs) h =
      rw (other-way n x.0 h.0) (ap (λ ys. x ∷ ys) (without-apart n xs h.1))

  with-apart : (n : ℕ) (w : V) (xs : List (ℕ × V))
      → AllByRecursion (λ y. nat_eq n y ≡ false) (keys_of xs) → with_number n w xs ≡ xs
  with-apart n w [] h = refl
  with-apart n w (x ∷ xs) h = rw (other-way n x.0 h.0) (ap (λ ys. x ∷ ys) (with-apart n w xs h.1))

  pub without-at : (n p : ℕ) (xs : List (ℕ × V)) (v : V) → slice_get xs p ≡ Some (n, v)
      → IsDistinct nat_eq (keys_of xs) → without_number n xs ≡ remove xs p
  unfolding IsDistinct
  without-at n p [] v h d = cc
  without-at n zero ((j, w) ∷ xs) v h d =
      let e : j ≡ n = entry-keys j n w v h in
      let t : nat_eq j n ≡ true = eq-eqb j n e in
      rw t (without-apart n xs (apart-from j n (keys_of xs) e d.0))
  without-at n (suc p) ((j, w) ∷ xs) v h d =
      let t : nat_eq j n ≡ false = all-at j n p (keys_of xs) (slice_get-keys p xs n v h) d.0 in
      rw t (ap (λ ys. (j, w) ∷ ys) (without-at n p xs v h d.1))

  pub with-at : (n p : ℕ) (xs : List (ℕ × V)) (v u : V) → slice_get xs p ≡ Some (n, v)
      → IsDistinct nat_eq (keys_of xs) → with_number n u xs ≡ set xs p (n, u)
  unfolding IsDistinct
  with-at n p [] v u h d = cc
  with-at n zero ((j, w) ∷ xs) v u h d =
      let e : j ≡ n = entry-keys j n w v h in
      let t : nat_eq j n ≡ true = eq-eqb j n e in
      rw t (ap (λ ys. (n, u) ∷ ys) (with-apart n u xs (apart-from j n (keys_of xs) e d.0)))
  with-at n (suc p) ((j, w) ∷ xs) v u h d =
      let t : nat_eq j n ≡ false = all-at j n p (keys_of xs) (slice_get-keys p xs n v h) d.0 in
      rw t (ap (λ ys. (j, w) ∷ ys) (with-at n p xs v u h d.1))

  none-apart : (n : ℕ) (xs : List (ℕ × V)) → lookup (nat_eq n) xs ≡ None
      → AllByRecursion (λ y. nat_eq n y ≡ false) (keys_of xs)
  none-apart n [] h = tt
  none-apart n (x ∷ xs) h =
      let s = split (nat_eq n x.0) x.1 (lookup (nat_eq n) xs) h in (s.0, none-apart n xs s.1)
    where
      split : (b : Bool) (v : V) (y : Option V) → cond b (Some v) y ≡ None
          → (b ≡ false) × (y ≡ None)
      split true v y h = cc
      split false v y h = (refl, h)

  pub without-none : (n : ℕ) (xs : List (ℕ × V)) → lookup (nat_eq n) xs ≡ None
      → without_number n xs ≡ xs
  without-none n xs h = without-apart n xs (none-apart n xs h)

  -- a row that is put in and taken out again gives the rows as they were
  pub without-inserted : (n p : ℕ) (xs : List (ℕ × V)) (v : V) → lookup (nat_eq n) xs ≡ None
      → without_number n (insert xs p (n, v)) ≡ xs
  without-inserted n p xs v h = inserted n p xs v (none-apart n xs h)
    where
      inserted : (n p : ℕ) (xs : List (ℕ × V)) (v : V)
          → AllByRecursion (λ y. nat_eq n y ≡ false) (keys_of xs)
          → without_number n (insert xs p (n, v)) ≡ xs
      inserted n zero xs v h =
          let t : nat_eq n n ≡ true = eq-eqb n n refl in
          rw t (without-apart n xs h)
      inserted n (suc p) [] v h = let t : nat_eq n n ≡ true = eq-eqb n n refl in rw t refl
      inserted n (suc p) (x ∷ xs) v h =
          rw (other-way n x.0 h.0) (ap (λ ys. x ∷ ys) (inserted n p xs v h.1))

  -- a row that is replaced and put back in its place gives the rows as they were
  pub with-back : (n p : ℕ) (xs : List (ℕ × V)) (v w : V) → slice_get xs p ≡ Some (n, v)
      → IsDistinct nat_eq (keys_of xs) → with_number n v (set xs p (n, w)) ≡ xs
  unfolding IsDistinct
  with-back n p [] v w h d = cc
  with-back n zero ((j, u) ∷ xs) v w h d =
      let e : j ≡ n = entry-keys j n u v h in
      let q : u ≡ v = entry-values j n u v h in
      let t : nat_eq n n ≡ true = eq-eqb n n refl in
      rw (t, e, q) (ap (λ ys. (n, v) ∷ ys) (with-apart n v xs (apart-from j n (keys_of xs) e d.0)))
  with-back n (suc p) ((j, u) ∷ xs) v w h d =
      let t : nat_eq j n ≡ false = all-at j n p (keys_of xs) (slice_get-keys p xs n v h) d.0 in
      rw t (ap (λ ys. (j, u) ∷ ys) (with-back n p xs v w h d.1))
