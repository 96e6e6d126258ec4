-- Lists and rows elsewhere: what a change of a part leaves as it was.
use Rattle.std.proofs.Common.{◌≡◌, ◌≢◌, ℕ, ◌⊎◌, inl, inr, refl, sym, ap, subst, ◌∙◌, List, [], ◌∷◌, ◌++◌, map, filter, Bool, true, false, true≢false, cond, nat_eq, Option, Some, None, is_some, arith}
use Rattle.std.proofs.lemmas.Bool.{eqb-true, eq-eqb}
use Rattle.std.specs.List.{Contains}
use Rattle.cad_rows.specs.declared.names.Face.{Face}
use Rattle.cad_rows.specs.declared.names.Face.TheVariants.{Outside, Parcel}
use Rattle.cad_map.specs.declared.boundary.Boundary.{Boundary}
use Rattle.cad_map.specs.Boundaries.{is_face, canonical_order}
use Rattle.cad_map.specs.Map.{Map, rings_at, rings_of}
use Rattle.numbered_rows.specs.Rows.{row_with, with_row, without_row}
use Rattle.cad_map.specs.Valid.{HasSoundRows}
use Rattle.cad_map.proofs.CallerLemmas.{Contains-cases, Contains-first, Contains-later, is_face-same, filter-append, differs, none-filter, canonical_order-filter}

-- ---- Elements

pub has-or_not : (xs : List ℕ) (q : ℕ) → Contains xs q ⊎ (¬ Contains xs q)
has-or_not [] q = inr (λ h. let low = h.1 in omega arith)
has-or_not (x ∷ xs) q = by (nat_eq x q) refl (has-or_not xs q)
  where
    by : (b : Bool) → nat_eq x q ≡ b → Contains xs q ⊎ (¬ Contains xs q)
        → Contains (x ∷ xs) q ⊎ (¬ Contains (x ∷ xs) q)
    by true is rest = inl (subst (Contains (x ∷ xs)) (eqb-true x q is) (Contains-first x xs))
    by false is (inl later) = inl (Contains-later x xs q later)
    by false is (inr none) = inr (λ h. elim (Contains-cases x xs q h) [
      | inl e ↦ differs x q is e
      | inr later ↦ none later
    ])

pub one-face : (f g : Face) → (f ≡ g) ⊎ (f ≢ g)
one-face Outside Outside = inl refl
one-face Outside (Parcel n) = inr (λ e. cc)
one-face (Parcel n) Outside = inr (λ e. cc)
one-face (Parcel n) (Parcel k) = by (nat_eq n k) refl
  where
    by : (b : Bool) → nat_eq n k ≡ b → (Parcel n ≡ Parcel k) ⊎ (Parcel n ≢ Parcel k)
    by true is = inl (ap Parcel (eqb-true n k is))
    by false is = inr (λ e. differs n k is (let same : n ≡ k = cc in same))

pub face-or_not : (fs : List Face) (f : Face) → Contains fs f ⊎ (¬ Contains fs f)
face-or_not [] f = inr (λ h. let low = h.1 in omega arith)
face-or_not (g ∷ fs) f = by (one-face g f) (face-or_not fs f)
  where
    by : (g ≡ f) ⊎ (g ≢ f) → Contains fs f ⊎ (¬ Contains fs f)
        → Contains (g ∷ fs) f ⊎ (¬ Contains (g ∷ fs) f)
    by (inl e) rest = inl (subst (Contains (g ∷ fs)) e (Contains-first g fs))
    by (inr off) (inl later) = inl (Contains-later g fs f later)
    by (inr off) (inr none) = inr (λ h. elim (Contains-cases g fs f h) [
      | inl e ↦ off e
      | inr later ↦ none later
    ])

pub not-face : (f g : Face) → f ≢ g → is_face f g ≡ false
not-face f g off = by (is_face f g) refl
  where
    by : (b : Bool) → is_face f g ≡ b → is_face f g ≡ false
    by true is = absurd (off (is_face-same f g is))
    by false is = is

-- ---- Filters

module _ {X : Type 0} (test : X → Bool) where
  -- what passes the test stays, and so the test picks the same
  pub filter-among : (stays : X → Bool) (xs : List X)
      → ((x : X) → Contains xs x → test x ≡ true → stays x ≡ true)
      → filter test (filter stays xs) ≡ filter test xs
  filter-among stays [] each = refl
  filter-among stays (x ∷ xs) each =
      by (stays x) (test x) refl refl
      (filter-among stays xs (λ y h. each y (Contains-later x xs y h)))
    where
      by : (a b : Bool) → stays x ≡ a → test x ≡ b
          → filter test (filter stays xs) ≡ filter test xs
          → filter test (filter stays (x ∷ xs)) ≡ filter test (x ∷ xs)
      by true true s t rest = rw (s, t) (ap (λ (l : List X). x ∷ l) rest)
      by true false s t rest = rw (s, t) rest
      by false true s t rest =
          absurd (true≢false (sym (each x (Contains-first x xs) t) ∙ s))
      by false false s t rest = rw (s, t) rest

  pub filter-none : (xs : List X) → ((x : X) → Contains xs x → test x ≡ false)
      → filter test xs ≡ []
  filter-none [] each = refl
  filter-none (x ∷ xs) each =
      rw (each x (Contains-first x xs))
      (filter-none xs (λ y h. each y (Contains-later x xs y h)))

  -- what passes is left as it is, and nothing comes to pass
  pub filter-changed : (change : X → X) (xs : List X)
      → ((x : X) → Contains xs x → test x ≡ true → change x ≡ x)
      → ((x : X) → Contains xs x → test x ≡ false → test (change x) ≡ false)
      → filter test (map change xs) ≡ filter test xs
  filter-changed change [] keeps stays_out = refl
  filter-changed change (x ∷ xs) keeps stays_out =
      by (test x) refl
      (filter-changed change xs (λ y h. keeps y (Contains-later x xs y h))
      (λ y h. stays_out y (Contains-later x xs y h)))
    where
      by : (b : Bool) → test x ≡ b → filter test (map change xs) ≡ filter test xs
          → filter test (map change (x ∷ xs)) ≡ filter test (x ∷ xs)
      by true is rest =
          let same = keeps x (Contains-first x xs) is in
          ap (λ (y : X). filter test (y ∷ map change xs)) same ∙ rw is
          (ap (λ (l : List X). x ∷ l) rest)
      by false is rest =
          let out = stays_out x (Contains-first x xs) is in
          rw (out, is) rest

  -- those that are left, and others that don't pass, pick the same
  pub picked-elsewhere : (stays : X → Bool) (xs added : List X)
      → ((x : X) → Contains xs x → test x ≡ true → stays x ≡ true)
      → ((x : X) → Contains added x → test x ≡ false)
      → filter test (filter stays xs ++ added) ≡ filter test xs
  picked-elsewhere stays xs added keeps none =
      filter-append test (filter stays xs) added
      ∙ (λ i. filter-among stays xs keeps i ++ filter-none added none i)
      ∙ no-more (filter test xs)
    where
      no-more : (l : List X) → l ++ [] ≡ l
      no-more [] = refl
      no-more (x ∷ l) = ap (λ (k : List X). x ∷ k) (no-more l)

-- ---- Rings of one face

-- boundaries that have the face's rings as a map has them have the same in canonical order
pub rings-elsewhere : (m : Map) → HasSoundRows m → (f : Face) (bs : List Boundary)
    → filter (λ b. is_face f b.face) bs ≡ filter (λ b. is_face f b.face) m.boundaries
    → rings_at f (canonical_order bs) ≡ rings_of m f
rings-elsewhere m rows f bs same =
    let own : Boundary → Bool = λ b. is_face f b.face in
    ap (map (λ (b : Boundary). b.ring))
    (sym (canonical_order-filter own (λ b. refl) bs) ∙ ap canonical_order same
    ∙ canonical_order-filter own (λ b. refl) m.boundaries ∙ ap (filter own) rows.canonical)

-- ---- Rows by their numbers

module _ {R : Type 0} (number : R → ℕ) where
  -- a row that is found among more rows was there, or is the new one
  pub found-pushed : (n : ℕ) (rows : List R) (row : R)
      → is_some (row_with number n (rows ++ row ∷ [])) ≡ true
      → (number row ≡ n) ⊎ (is_some (row_with number n rows) ≡ true)
  found-pushed n [] row found = by (nat_eq (number row) n) refl found
    where
      by : (b : Bool) → nat_eq (number row) n ≡ b
          → is_some (cond b (Some row) None) ≡ true
          → (number row ≡ n) ⊎ (is_some (row_with number n []) ≡ true)
      by true is h = inl (eqb-true (number row) n is)
      by false is h = absurd (true≢false (sym h))
  found-pushed n (r ∷ rows) row found =
      by (nat_eq (number r) n) refl (λ h. found-pushed n rows row h) found
    where
      by : (b : Bool) → nat_eq (number r) n ≡ b
          → (is_some (row_with number n (rows ++ row ∷ [])) ≡ true
          → (number row ≡ n) ⊎ (is_some (row_with number n rows) ≡ true))
          → is_some (cond b (Some r) (row_with number n (rows ++ row ∷ []))) ≡ true
          → (number row ≡ n) ⊎ (is_some (row_with number n (r ∷ rows)) ≡ true)
      by true is again h = inr (rw is refl)
      by false is again h = elim (again h) [ inl e ↦ inl e | inr k ↦ inr (rw is k) ]

  -- and one that was there is found as it was
  pub same-pushed : (n : ℕ) (rows added : List R) → is_some (row_with number n rows) ≡ true
      → row_with number n (rows ++ added) ≡ row_with number n rows
  same-pushed n [] added found = absurd (true≢false (sym found))
  same-pushed n (r ∷ rows) added found =
      by (nat_eq (number r) n) refl (λ h. same-pushed n rows added h) found
    where
      by : (b : Bool) → nat_eq (number r) n ≡ b
          → (is_some (row_with number n rows) ≡ true
          → row_with number n (rows ++ added) ≡ row_with number n rows)
          → is_some (cond b (Some r) (row_with number n rows)) ≡ true
          → row_with number n ((r ∷ rows) ++ added) ≡ row_with number n (r ∷ rows)
      by true is again h = rw is refl
      by false is again h = rw is (again h)

  -- a row of another number is found as it was, where one goes
  pub same-without : (n p : ℕ) (rows : List R) → n ≢ p
      → row_with number n (without_row number p rows) ≡ row_with number n rows
  same-without n p [] off = refl
  same-without n p (r ∷ rows) off =
      by (nat_eq (number r) p) (nat_eq (number r) n) refl refl (same-without n p rows off)
    where
      by : (a b : Bool) → nat_eq (number r) p ≡ a → nat_eq (number r) n ≡ b
          → row_with number n (without_row number p rows) ≡ row_with number n rows
          → row_with number n (without_row number p (r ∷ rows)) ≡ row_with number n (r ∷ rows)
      by true true one other rest =
          absurd (off (sym (eqb-true (number r) n other) ∙ eqb-true (number r) p one))
      by true false one other rest = rw (one, other) rest
      by false true one other rest = rw (one, other) refl
      by false false one other rest = rw (one, other) rest

  -- the row that goes isn't found
  pub none-without : (p : ℕ) (rows : List R)
      → row_with number p (without_row number p rows) ≡ None
  none-without p [] = refl
  none-without p (r ∷ rows) = by (nat_eq (number r) p) refl (none-without p rows)
    where
      by : (a : Bool) → nat_eq (number r) p ≡ a
          → row_with number p (without_row number p rows) ≡ None
          → row_with number p (without_row number p (r ∷ rows)) ≡ None
      by true is rest = rw is rest
      by false is rest = rw is (rw is rest)

  -- and one that is found among the others was found, under another number
  pub in-without : (n p : ℕ) (rows : List R)
      → is_some (row_with number n (without_row number p rows)) ≡ true
      → (is_some (row_with number n rows) ≡ true) × (n ≢ p)
  in-without n p rows found = (
    by (row_with number n rows) refl,
    λ same. true≢false (sym found
        ∙ ap (λ (k : ℕ). is_some (row_with number k (without_row number p rows))) same
        ∙ ap (λ (o : Option R). is_some o) (none-without p rows)),
  )
    where
      by : (o : Option R) → row_with number n rows ≡ o → is_some (row_with number n rows) ≡ true
      by (Some r) is = ap (λ (o : Option R). is_some o) is
      by None is =
          absurd (true≢false (sym found
          ∙ ap (λ (o : Option R). is_some o) (none-filter number _ n rows is)))

  -- a row of another number is found as it was, where one takes the place of one
  pub same-with_row : (n : ℕ) (new : R) (rows : List R) → n ≢ number new
      → row_with number n (with_row number new rows) ≡ row_with number n rows
  same-with_row n new [] off = refl
  same-with_row n new (r ∷ rows) off =
      by (nat_eq (number r) (number new)) refl (same-with_row n new rows off)
    where
      by : (a : Bool) → nat_eq (number r) (number new) ≡ a
          → row_with number n (with_row number new rows) ≡ row_with number n rows
          → row_with number n (with_row number new (r ∷ rows)) ≡ row_with number n (r ∷ rows)
      by true is rest =
          let one : nat_eq (number new) n ≡ false =
          not-equal (number new) n (λ e. off (sym e)) in
          let other : nat_eq (number r) n ≡ false =
          not-equal (number r) n
          (λ e. off (sym e ∙ eqb-true (number r) (number new) is)) in
          rw (is, one, other) rest
        where
          not-equal : (a b : ℕ) → a ≢ b → nat_eq a b ≡ false
          not-equal a b off = cases (nat_eq a b) refl
            where
              cases : (t : Bool) → nat_eq a b ≡ t → nat_eq a b ≡ false
              cases true is = absurd (off (eqb-true a b is))
              cases false is = is
      by false is rest =
          rw is (ap (λ (o : Option R). cond (nat_eq (number r) n) (Some r) o) rest)

  -- and where one of its own number takes its place, that one is found
  pub own-with_row : (new : R) (rows : List R)
      → is_some (row_with number (number new) rows) ≡ true
      → row_with number (number new) (with_row number new rows) ≡ Some new
  own-with_row new [] found = absurd (true≢false (sym found))
  own-with_row new (r ∷ rows) found =
      by (nat_eq (number r) (number new)) refl (λ h. own-with_row new rows h) found
    where
      by : (a : Bool) → nat_eq (number r) (number new) ≡ a
          → (is_some (row_with number (number new) rows) ≡ true
          → row_with number (number new) (with_row number new rows) ≡ Some new)
          → is_some (cond a (Some r) (row_with number (number new) rows)) ≡ true
          → row_with number (number new) (with_row number new (r ∷ rows)) ≡ Some new
      by true is again h =
          let own : nat_eq (number new) (number new) ≡ true =
          eq-eqb (number new) (number new) refl in
          rw (is, own) refl
      by false is again h = rw is (rw is (again h))
