-- What only one of two lists of rows has, as entries, where some rows go, some come and some move.
use Rattle.std.proofs.Common.{◌≡◌, ◌≢◌, ℕ, inl, inr, refl, sym, ap, subst, ◌∙◌, List, [], ◌∷◌, ◌++◌, map, filter, not, Bool, true, false, true≢false, None, arith}
use Rattle.std.proofs.lemmas.List.Elements.{Contains-append_left, Contains-append_right, Contains-append_cases}
use Rattle.std.proofs.lemmas.List.{append-nil}
use Rattle.std.specs.List.{Contains}
use Rattle.numbered_rows.specs.Rows.{row_with}
use Rattle.cad_map.specs.Valid.{EachPair}
use Rattle.cad_map.proofs.CallerLemmas.{AllPairs-from_EachPair, All-at_each, All-from_each, Contains-cases, Contains-map, map-Contains, Contains-filter, filter-Contains, others-from_none}
use Rattle.cell_grid.specs.declared.entry.Entry.{Entry}
use Rattle.cell_grid.specs.Together.{AreDistinct}
use Rattle.cad_laws.proofs.CallerLemmas.{filter-all, filter-none}
use Rattle.edit_records.specs.Exchanged.{AreOnlyOf}

-- nothing is only there, where all of it is elsewhere as well
pub nothing-only : (these those : List Entry) → ((e : Entry) → Contains these e → Contains those e) → AreOnlyOf these those []
nothing-only these those each = record {
  is = λ e. ((λ h. absurd (let low = h.1 in omega arith)), (λ h. absurd (h.1 (each e h.0))));
  once = λ i j d before within. absurd (omega (arith, within));
}

pub none-only : (these those : List Entry) → these ≡ those → AreOnlyOf these those []
none-only these those same = nothing-only these those (λ e h. subst (λ (es : List Entry). Contains es e) same h)

module _ {R : Type 0} (number : R → ℕ) where
  abbrev pub AreApart : List R → Type 0
  AreApart rows = EachPair (λ a b. a ≢ b) (map number rows)

  -- of rows with different numbers two with one number are the same
  pub one-row : (rows : List R) → AreApart rows → (r q : R) → Contains rows r → Contains rows q → number r ≡ number q → r ≡ q
  one-row [] apart r q h k same = absurd (let low = h.1 in omega arith)
  one-row (x ∷ rows) apart r q h k same = elim (Contains-cases x rows r h) [
    | inl e ↦ elim (Contains-cases x rows q k) [
      | inl f ↦ sym e ∙ f
      | inr later ↦ absurd (other q later (ap number e ∙ same))
    ]
    | inr before ↦ elim (Contains-cases x rows q k) [
      | inl f ↦ absurd (other r before (ap number f ∙ sym same))
      | inr later ↦ one-row rows apart.1 r q before later same
    ]
  ]
    where
      other : (s : R) → Contains rows s → number x ≢ number s
      other s h = All-at_each (λ n. number x ≢ n) (map number rows) (number s) apart.0 (Contains-map number rows s h)

  -- those that a test picks have different numbers too
  apart-filter : (test : R → Bool) (rows : List R) → AreApart rows → AreApart (filter test rows)
  apart-filter test [] apart = tt
  apart-filter test (x ∷ rows) apart = by (test x) refl (apart-filter test rows apart.1)
    where
      by : (b : Bool) → test x ≡ b → AreApart (filter test rows) → AreApart (filter test (x ∷ rows))
      by true is rest = rw is (
        All-from_each (λ n. number x ≢ n) (map number (filter test rows)) (λ n h.
            let from = map-Contains number (filter test rows) n h in
            subst (λ (k : ℕ). number x ≢ k) from.2
            (All-at_each (λ k. number x ≢ k) (map number rows) (number from.0) apart.0 (Contains-map number rows from.0 (filter-Contains test rows from.0 from.1).0))),
        rest,
      )
      by false is rest = rw is rest

  module _ (entry : R → Entry) (numbered : (r : R) → (entry r).number ≡ number r) where
    -- rows with different numbers have different entries
    each-other : (rows : List R) → AreApart rows → EachPair (λ a b. ¬ (a ≡ b)) (map entry rows)
    each-other [] apart = tt
    each-other (x ∷ rows) apart = (
      All-from_each (λ e. ¬ (entry x ≡ e)) (map entry rows) (λ e h same.
          let from = map-Contains entry rows e h in
          All-at_each (λ n. number x ≢ n) (map number rows) (number from.0) apart.0 (Contains-map number rows from.0 from.1)
          (sym (numbered x) ∙ ap (λ (d : Entry). d.number) (same ∙ sym from.2) ∙ numbered from.0)),
      each-other rows apart.1,
    )

    pub distinct-entries : (rows : List R) → AreApart rows → AreDistinct (map entry rows)
    distinct-entries rows apart = AllPairs-from_EachPair (λ a b. ¬ (a ≡ b)) (map entry rows) (each-other rows apart)

-- Rows of two maps, with the entry of each in the one and in the other.
module _ {R : Type 0} (number : R → ℕ) (f g : R → Entry) (f_numbered : (r : R) → (f r).number ≡ number r) (g_numbered : (r : R) → (g r).number ≡ number r)
    (rows : List R) (apart : AreApart number rows) where
  same-number : (r q : R) → f r ≡ g q → number r ≡ number q
  same-number r q same = sym (f_numbered r) ∙ ap (λ (e : Entry). e.number) same ∙ g_numbered q

  -- Some go, and others with new numbers come. Those that stay lie where they lay.
  module _ (goes : R → Bool) (more : List R) (fresh : (r : R) → Contains more r → row_with number (number r) rows ≡ None)
      (same : (r : R) → Contains rows r → goes r ≡ false → g r ≡ f r) where
    abbrev stay : List R
    stay = filter (λ r. not (goes r)) rows

    stays : (r : R) → Contains rows r → goes r ≡ false → Contains (map g (stay ++ more)) (f r)
    stays r h is = subst (Contains (map g (stay ++ more))) (same r h is)
        (Contains-map g (stay ++ more) r (Contains-append_left stay more r (Contains-filter (λ r. not (goes r)) rows r h (ap not is))))

    stayed : (q : R) → Contains stay q → Contains rows q × (goes q ≡ false)
    stayed q h = let k = filter-Contains (λ r. not (goes r)) rows q h in (k.0, untrue (goes q) k.1)
      where
        untrue : (b : Bool) → not b ≡ true → b ≡ false
        untrue true e = absurd (true≢false (sym e))
        untrue false e = refl

    new-number : (r q : R) → Contains rows r → Contains more q → number r ≢ number q
    new-number r q h k = All-at_each (λ n. n ≢ number q) (map number rows) (number r) (others-from_none number (number q) rows (fresh q k)) (Contains-map number rows r h)

    pub rows-gone : AreOnlyOf (map f rows) (map g (stay ++ more)) (map f (filter goes rows))
    rows-gone = record {
      is = λ e. (
        (λ h.
            let from = map-Contains f (filter goes rows) e h in
            let r = from.0 in
            let k = filter-Contains goes rows r from.1 in (
              subst (Contains (map f rows)) from.2 (Contains-map f rows r k.0),
              λ there.
                  let to = map-Contains g (stay ++ more) e there in
                  let one = same-number r to.0 (from.2 ∙ sym to.2) in
                  elim (Contains-append_cases stay more to.0 to.1) [
                    | inl kept ↦
                        let was = stayed to.0 kept in
                        true≢false (sym k.1 ∙ ap goes (one-row number rows apart r to.0 k.0 was.0 one) ∙ was.1)
                    | inr came ↦ new-number r to.0 k.0 came one
                  ],
            )),
        (λ h.
            let from = map-Contains f rows e h.0 in
            by e from.0 from.1 from.2 h.1 (goes from.0) refl),
      );
      once = distinct-entries number f f_numbered (filter goes rows) (apart-filter number goes rows apart);
    }
      where
        by : (e : Entry) (r : R) → Contains rows r → f r ≡ e → (¬ Contains (map g (stay ++ more)) e) → (b : Bool) → goes r ≡ b → Contains (map f (filter goes rows)) e
        by e r h is off true goes_out = subst (Contains (map f (filter goes rows))) is (Contains-map f (filter goes rows) r (Contains-filter goes rows r h goes_out))
        by e r h is off false remains = absurd (off (subst (Contains (map g (stay ++ more))) is (stays r h remains)))

    pub rows-come : AreApart number more → AreOnlyOf (map g (stay ++ more)) (map f rows) (map g more)
    rows-come more_apart = record {
      is = λ e. (
        (λ h.
            let to = map-Contains g more e h in (
              subst (Contains (map g (stay ++ more))) to.2 (Contains-map g (stay ++ more) to.0 (Contains-append_right stay more to.0 to.1)),
              λ there.
                  let from = map-Contains f rows e there in
                  new-number from.0 to.0 from.1 to.1 (same-number from.0 to.0 (from.2 ∙ sym to.2)),
            )),
        (λ h.
            let to = map-Contains g (stay ++ more) e h.0 in
            elim (Contains-append_cases stay more to.0 to.1) [
              | inl kept ↦
                  let was = stayed to.0 kept in
                  absurd (h.1 (subst (Contains (map f rows)) (sym (same to.0 was.0 was.1) ∙ to.2) (Contains-map f rows to.0 was.0)))
              | inr came ↦ subst (Contains (map g more)) to.2 (Contains-map g more to.0 came)
            ]),
      );
      once = distinct-entries number g g_numbered more more_apart;
    }

  -- Some move. The others lie where they lay.
  module _ (moves : R → Bool) (away : (r : R) → Contains rows r → moves r ≡ true → ¬ (f r ≡ g r)) (same : (r : R) → Contains rows r → moves r ≡ false → g r ≡ f r) where
    pub moved-gone : AreOnlyOf (map f rows) (map g rows) (map f (filter moves rows))
    moved-gone = record {
      is = λ e. (
        (λ h.
            let from = map-Contains f (filter moves rows) e h in
            let k = filter-Contains moves rows from.0 from.1 in (
              subst (Contains (map f rows)) from.2 (Contains-map f rows from.0 k.0),
              λ there.
                  let to = map-Contains g rows e there in
                  let at = from.2 ∙ sym to.2 in
                  let one = one-row number rows apart from.0 to.0 k.0 to.1 (same-number from.0 to.0 at) in
                  away from.0 k.0 k.1 (at ∙ ap g (sym one)),
            )),
        (λ h.
            let from = map-Contains f rows e h.0 in
            by e from.0 from.1 from.2 h.1 (moves from.0) refl),
      );
      once = distinct-entries number f f_numbered (filter moves rows) (apart-filter number moves rows apart);
    }
      where
        by : (e : Entry) (r : R) → Contains rows r → f r ≡ e → (¬ Contains (map g rows) e) → (b : Bool) → moves r ≡ b → Contains (map f (filter moves rows)) e
        by e r h is off true goes = subst (Contains (map f (filter moves rows))) is (Contains-map f (filter moves rows) r (Contains-filter moves rows r h goes))
        by e r h is off false remains = absurd (off (subst (Contains (map g rows)) (same r h remains ∙ is) (Contains-map g rows r h)))

-- what goes and what comes between two lists
abbrev pub AreBetween : List Entry → List Entry → List Entry → List Entry → Type 0
AreBetween olds news gone come = AreOnlyOf olds news gone × AreOnlyOf news olds come

pub none-between : (olds news : List Entry) → news ≡ olds → AreBetween olds news [] []
none-between olds news same = (none-only olds news (sym same), none-only news olds same)

module _ {R : Type 0} (number : R → ℕ) (f g : R → Entry) (f_numbered : (r : R) → (f r).number ≡ number r) (g_numbered : (r : R) → (g r).number ≡ number r)
    (rows : List R) (apart : AreApart number rows) where
  pub turned : (goes : R → Bool) (more : List R) → ((r : R) → Contains more r → row_with number (number r) rows ≡ None) → AreApart number more
      → ((r : R) → Contains rows r → goes r ≡ false → g r ≡ f r)
      → AreBetween (map f rows) (map g (filter (λ r. not (goes r)) rows ++ more)) (map f (filter goes rows)) (map g more)
  turned goes more fresh more_apart same = (
    rows-gone number f g f_numbered g_numbered rows apart goes more fresh same,
    rows-come number f g f_numbered g_numbered rows apart goes more fresh same more_apart,
  )

  pub taken : (goes : R → Bool) → ((r : R) → Contains rows r → goes r ≡ false → g r ≡ f r)
      → AreBetween (map f rows) (map g (filter (λ r. not (goes r)) rows)) (map f (filter goes rows)) []
  taken goes same =
      subst (λ (l : List R). AreBetween (map f rows) (map g l) (map f (filter goes rows)) []) (append-nil (filter (λ r. not (goes r)) rows))
      (turned goes [] (λ r h. absurd (let low = h.1 in omega arith)) tt same)

  pub put : (more : List R) → ((r : R) → Contains more r → row_with number (number r) rows ≡ None) → AreApart number more
      → ((r : R) → Contains rows r → g r ≡ f r)
      → AreBetween (map f rows) (map g (rows ++ more)) [] (map g more)
  put more fresh more_apart same =
      subst (λ (l : List R). AreBetween (map f rows) (map g (l ++ more)) [] (map g more)) (filter-all rows)
      (subst (λ (l : List R). AreBetween (map f rows) (map g (filter (λ r. true) rows ++ more)) (map f l) (map g more)) (filter-none (λ r. false) rows (λ r h. refl))
      (turned (λ r. false) more fresh more_apart (λ r h is. same r h)))

  pub moved : (moves : R → Bool) → ((r : R) → Contains rows r → moves r ≡ true → ¬ (f r ≡ g r)) → ((r : R) → Contains rows r → moves r ≡ false → g r ≡ f r)
      → AreBetween (map f rows) (map g rows) (map f (filter moves rows)) (map g (filter moves rows))
  moved moves away same = (
    moved-gone number f g f_numbered g_numbered rows apart moves away same,
    moved-gone number g f g_numbered f_numbered rows apart moves (λ r h is e. away r h is (sym e)) (λ r h is. sym (same r h is)),
  )
