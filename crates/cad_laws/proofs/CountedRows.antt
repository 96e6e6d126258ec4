-- The rows that only one of two lists has, where the other is the list with rows taken out and
-- more rows last.
use Rattle.std.proofs.Common.{◌≡◌, ◌≢◌, ℕ, ◌+◌, ◌⊎◌, inl, inr, refl, sym, ap, subst, ◌∙◌, List, [], ◌∷◌, ◌++◌, length, map, filter, not, ◌==◌, Bool, true, false, true≢false, nat_eq, Option, None, Some, is_some, arith}
use Rattle.std.specs.Prelude.{sum_by, count_by}
use Rattle.std.specs.List.{AllByRecursion, Contains}
use Rattle.std.proofs.lemmas.Bool.{eqb-true, false_from_ne_true}
use Rattle.std.proofs.lemmas.Cmp.{nat_eq_equiv}
use Rattle.std.proofs.lemmas.List.{append-nil}
use Rattle.std.proofs.lemmas.List.Sums.{length-filter}
use Rattle.cad_rows.specs.declared.rows.PointRow.{PointRow}
use Rattle.cad_rows.specs.declared.rows.StringRow.{StringRow}
use Rattle.cad_rows.specs.declared.rows.ParcelRow.{ParcelRow}
use Rattle.cad_rows.specs.declared.rows.SourceRow.{SourceRow}
use Rattle.cad_map.specs.Costs.{rows_changed, sources_removed}
use Rattle.cad_map.specs.Map.{Map}
use Rattle.numbered_rows.specs.Rows.{row_with, without_row, with_row}
use Rattle.cad_map.specs.Valid.{EachPair}
use Rattle.cad_map.proofs.CallerLemmas.{Contains-cases, Contains-first, Contains-later, Contains-map, filter-Contains, filter-append, All-Contains, none-filter, map-with_row}
use Rattle.cad_laws.proofs.Elsewhere.{filter-none}

-- ---- Tests of the elements of one list

module _ {X : Type 0} where
  pub filter-alike : (p q : X → Bool) (xs : List X) → ((x : X) → Contains xs x → p x ≡ q x)
      → filter p xs ≡ filter q xs
  filter-alike p q [] each = refl
  filter-alike p q (x ∷ xs) each =
      by (q x) refl (filter-alike p q xs (λ y h. each y (Contains-later x xs y h)))
    where
      here : p x ≡ q x
      here = each x (Contains-first x xs)

      by : (b : Bool) → q x ≡ b → filter p xs ≡ filter q xs
          → filter p (x ∷ xs) ≡ filter q (x ∷ xs)
      by true is rest = rw (here, is) (ap (λ (l : List X). x ∷ l) rest)
      by false is rest = rw (here, is) rest

  pub filter-all : (xs : List X) → filter (λ x. true) xs ≡ xs
  filter-all [] = refl
  filter-all (x ∷ xs) = ap (λ (l : List X). x ∷ l) (filter-all xs)

-- ---- Rows with numbers

module _ {R : Type 0} (number : R → ℕ) where
  abbrev there : ℕ → List R → Bool
  there n rows = is_some (row_with number n rows)

  -- the rows of the first list whose numbers the second hasn't
  abbrev pub lost : List R → List R → List R
  lost olds news = filter (λ r. not (there (number r) news)) olds

  there-first : (r : R) (rows : List R) → there (number r) (r ∷ rows) ≡ true
  there-first r rows = rw (nat_eq_equiv.refl (number r)) refl

  there-later : (n : ℕ) (q : R) (rows : List R) → number q ≢ n
      → there n (q ∷ rows) ≡ there n rows
  there-later n q rows off =
      rw (false_from_ne_true (nat_eq (number q) n) (λ h. off (eqb-true (number q) n h))) refl

  none-of : (n : ℕ) (rows : List R) → AllByRecursion (λ k. n ≢ k) (map number rows)
      → row_with number n rows ≡ None
  none-of n [] all = refl
  none-of n (r ∷ rows) all =
      rw (false_from_ne_true (nat_eq (number r) n) (λ h. all.0 (sym (eqb-true (number r) n h))))
      (none-of n rows all.1)

  -- among rows of different numbers a row is found, where it passes
  pub there-left : (test : R → Bool) (rows : List R) (r : R)
      → EachPair (λ a b. a ≢ b) (map number rows) → Contains rows r
      → there (number r) (filter test rows) ≡ test r
  there-left test [] r apart h = absurd (let low = h.1 in omega arith)
  there-left test (q ∷ rows) r apart h =
      by (test q) refl (Contains-cases q rows r h) (there-left test rows r apart.1)
    where
      by : (b : Bool) → test q ≡ b → (q ≡ r) ⊎ Contains rows r
          → (Contains rows r → there (number r) (filter test rows) ≡ test r)
          → there (number r) (filter test (q ∷ rows)) ≡ test r
      by true is (inl same) rest =
          subst (λ (s : R). there (number s) (filter test (q ∷ rows)) ≡ test s) same
          (rw is (there-first q (filter test rows)))
      by false is (inl same) rest =
          subst (λ (s : R). there (number s) (filter test (q ∷ rows)) ≡ test s) same
          (rw is (ap (λ (o : Option R). is_some o)
          (none-filter number test (number q) rows (none-of (number q) rows apart.0))))
      by true is (inr later) rest =
          rw is (there-later (number r) q (filter test rows)
          (All-Contains (λ k. number q ≢ k) (map number rows) (number r) apart.0
          (Contains-map number rows r later)) ∙ rest later)
      by false is (inr later) rest = rw is (rest later)

  -- where no row before has its number, a row that comes later isn't found for one before
  there-pushed : (n : ℕ) (rows more : List R) → row_with number n more ≡ None
      → there n (rows ++ more) ≡ there n rows
  there-pushed n [] more none = ap (λ (o : Option R). is_some o) none
  there-pushed n (q ∷ rows) more none =
      by (nat_eq (number q) n) refl (there-pushed n rows more none)
    where
      by : (b : Bool) → nat_eq (number q) n ≡ b → there n (rows ++ more) ≡ there n rows
          → there n (q ∷ (rows ++ more)) ≡ there n (q ∷ rows)
      by true is rest = rw is refl
      by false is rest = rw is rest

  there-alike : (n : ℕ) (rows others : List R) → map number rows ≡ map number others
      → there n rows ≡ there n others
  there-alike n [] [] same = refl
  there-alike n [] (r ∷ others) same = cc
  there-alike n (r ∷ rows) [] same = cc
  there-alike n (q ∷ rows) (r ∷ others) same =
      by (nat_eq (number r) n) refl (there-alike n rows others tail)
    where
      head : number q ≡ number r
      head = cc

      tail : map number rows ≡ map number others
      tail = cc

      by : (b : Bool) → nat_eq (number r) n ≡ b → there n rows ≡ there n others
          → there n (q ∷ rows) ≡ there n (r ∷ others)
      by true is rest = rw (head, is) refl
      by false is rest = rw (head, is) rest

  there-in : (rows : List R) (r : R) → Contains rows r → there (number r) rows ≡ true
  there-in [] r h = absurd (let low = h.1 in omega arith)
  there-in (q ∷ rows) r h =
      by (nat_eq (number q) (number r)) refl (Contains-cases q rows r h) (there-in rows r)
    where
      by : (b : Bool) → nat_eq (number q) (number r) ≡ b → (q ≡ r) ⊎ Contains rows r
          → (Contains rows r → there (number r) rows ≡ true)
          → there (number r) (q ∷ rows) ≡ true
      by true is case rest = rw is refl
      by false is (inr later) rest = rw is (rest later)
      by false is (inl same) rest =
          absurd (true≢false (sym (nat_eq_equiv.refl (number r))
          ∙ ap (λ (x : R). nat_eq (number x) (number r)) (sym same) ∙ is))

  -- of rows with different numbers only one has the number
  found-alone : (n : ℕ) (row : R) (rows : List R) → EachPair (λ a b. a ≢ b) (map number rows)
      → row_with number n rows ≡ Some row
      → filter (λ r. not (not (number r == n))) rows ≡ row ∷ []
  found-alone n row [] apart found = cc
  found-alone n row (r ∷ rows) apart found =
      by (nat_eq (number r) n) refl (found-alone n row rows apart.1)
    where
      none : number r ≡ n → (q : R) → Contains rows q → not (not (number q == n)) ≡ false
      none same q h =
          ap (λ (b : Bool). not (not b))
          (false_from_ne_true (nat_eq (number q) n) (λ e.
          All-Contains (λ k. number r ≢ k) (map number rows) (number q) apart.0
          (Contains-map number rows q h) (same ∙ sym (eqb-true (number q) n e))))

      by : (b : Bool) → nat_eq (number r) n ≡ b
          → (row_with number n rows ≡ Some row
          → filter (λ r. not (not (number r == n))) rows ≡ row ∷ [])
          → filter (λ r. not (not (number r == n))) (r ∷ rows) ≡ row ∷ []
      by true is rest =
          let here : Some r ≡ Some row = rw is at found in
          let same : r ≡ row = cc in
          rw is (ap (λ (l : List R). r ∷ l)
          (filter-none (λ r. not (not (number r == n))) rows
          (none (eqb-true (number r) n is)))
          ∙ ap (λ (q : R). q ∷ []) same)
      by false is rest = rw is (rest (rw is at found))

  -- these rows go, and these come
  pub record Turn (olds news gone put : List R) : Type 0 where
    pub loses : lost olds news ≡ gone
    pub gains : lost news olds ≡ put

  module _ (rows : List R) (apart : EachPair (λ a b. a ≢ b) (map number rows)) where
    -- rows are taken out, and others with new numbers are put last
    pub turned : (test : R → Bool) (more : List R)
        → ((x : R) → Contains more x → row_with number (number x) rows ≡ None)
        → Turn rows (filter test rows ++ more) (filter (λ r. not (test r)) rows) more
    turned test more new = record {
      loses = filter-alike (λ r. not (there (number r) (filter test rows ++ more)))
          (λ r. not (test r)) rows (λ r h. ap not
          (there-pushed (number r) (filter test rows) more (elsewhere r h more new)
          ∙ there-left test rows r apart h));
      gains =
          filter-append (λ r. not (there (number r) rows)) (filter test rows) more
          ∙ ap (λ (l : List R). l ++ lost more rows)
          (filter-none (λ r. not (there (number r) rows)) (filter test rows)
          (λ r h. ap not (there-in rows r (filter-Contains test rows r h).0)))
          ∙ filter-alike (λ r. not (there (number r) rows)) (λ r. true) more
          (λ r h. ap (λ (o : Option R). not (is_some o)) (new r h)) ∙ filter-all more;
    }
      where
        elsewhere : (r : R) → Contains rows r → (xs : List R)
            → ((x : R) → Contains xs x → row_with number (number x) rows ≡ None)
            → row_with number (number r) xs ≡ None
        elsewhere r h [] each = refl
        elsewhere r h (x ∷ xs) each =
            by (nat_eq (number x) (number r)) refl
            (elsewhere r h xs (λ y k. each y (Contains-later x xs y k)))
          where
            by : (b : Bool) → nat_eq (number x) (number r) ≡ b
                → row_with number (number r) xs ≡ None
                → row_with number (number r) (x ∷ xs) ≡ None
            by false is rest = rw is rest
            by true is rest =
                let none = each x (Contains-first x xs) in
                let some = there-in rows r h in
                let same = eqb-true (number x) (number r) is in
                absurd (true≢false (sym some
                ∙ ap (λ (n : ℕ). there n rows) (sym same)
                ∙ ap (λ (o : Option R). is_some o) none))

    pub turned-put : (more : List R)
        → ((x : R) → Contains more x → row_with number (number x) rows ≡ None)
        → Turn rows (rows ++ more) [] more
    turned-put more new =
        subst (λ (l : List R). Turn rows (l ++ more) [] more) (filter-all rows)
        (subst (λ (l : List R). Turn rows (filter (λ x. true) rows ++ more) l more)
        (filter-none (λ x. false) rows (λ x h. refl)) (turned (λ x. true) more new))

    pub turned-out : (test : R → Bool)
        → Turn rows (filter test rows) (filter (λ r. not (test r)) rows) []
    turned-out test =
        subst (λ (l : List R). Turn rows l (filter (λ r. not (test r)) rows) [])
        (append-nil (filter test rows))
        (turned test [] (λ x h. absurd (let low = h.1 in omega arith)))

    -- rows that change in their places
    pub turned-same : (news : List R) → map number news ≡ map number rows
        → Turn rows news [] []
    turned-same news same = record {
      loses = filter-none (λ r. not (there (number r) news)) rows
          (λ r h. ap not (there-alike (number r) news rows same ∙ there-in rows r h));
      gains = filter-none (λ r. not (there (number r) rows)) news
          (λ r h. ap not (sym (there-alike (number r) news rows same) ∙ there-in news r h));
    }

    -- as one row does
    pub turned-in_place : (row : R) → Turn rows (with_row number row rows) [] []
    turned-in_place row = turned-same (with_row number row rows) (map-with_row number row rows)

    -- the row of one number goes
    pub row-out : (n : ℕ) (row : R) → row_with number n rows ≡ Some row
        → Turn rows (without_row number n rows) (row ∷ []) []
    row-out n row found =
        subst (λ (l : List R). Turn rows (without_row number n rows) l [])
        (found-alone n row rows apart found) (turned-out (λ r. not (number r == n)))

    -- and others come
    pub row-turned : (n : ℕ) (row : R) (more : List R) → row_with number n rows ≡ Some row
        → ((x : R) → Contains more x → row_with number (number x) rows ≡ None)
        → Turn rows (without_row number n rows ++ more) (row ∷ []) more
    row-turned n row more found new =
        subst (λ (l : List R). Turn rows (without_row number n rows ++ more) l more)
        (found-alone n row rows apart found) (turned (λ r. not (number r == n)) more new)

-- ---- All tables of a map

pub record Turns (m new : Map) (rows sources : ℕ) : Type 0 where
  pub rows_are : rows_changed m new ≡ rows
  pub sources_are : sources_removed m new ≡ sources

pub turns : (m new : Map) (gp pp : List PointRow) (gs ps : List StringRow)
    (gc pc : List ParcelRow) (gq pq : List SourceRow)
    → Turn (λ r. r.number) m.points new.points gp pp
    → Turn (λ r. r.number) m.strings new.strings gs ps
    → Turn (λ r. r.number) m.parcels new.parcels gc pc
    → Turn (λ r. r.number) m.sources new.sources gq pq
    → Turns m new ((length gp + length gs + length gc + length gq)
    + (length pp + length ps + length pc + length pq))
    (sum_by (λ r. length r.sources) gp + sum_by (λ r. length r.sources) gs
    + sum_by (λ r. length r.sources) gc)
turns m new gp pp gs ps gc pc gq pq p s c q = record {
  rows_are =
      let a = amount (λ (r : PointRow). r.number) p in
      let b = amount (λ (r : StringRow). r.number) s in
      let d = amount (λ (r : ParcelRow). r.number) c in
      let e = amount (λ (r : SourceRow). r.number) q in
      omega (arith, a.0, a.1, b.0, b.1, d.0, d.1, e.0, e.1);
  sources_are = rw (p.loses, s.loses, c.loses) refl;
}
  where
    amount : {R : Type 0} (number : R → ℕ) {olds news gone put : List R}
        → Turn number olds news gone put
        → (count_by (λ r. not (is_some (row_with number (number r) news))) olds ≡ length gone)
        × (count_by (λ r. not (is_some (row_with number (number r) olds))) news ≡ length put)
    amount number {olds} {news} {gone} {put} t = (
      sym (length-filter (λ r. not (is_some (row_with number (number r) news))) olds)
          ∙ ap length t.loses,
      sym (length-filter (λ r. not (is_some (row_with number (number r) olds))) news)
          ∙ ap length t.gains,
    )
