-- Steps from side to side, and the same steps back.
use Rattle.std.proofs.Common.{◌≡◌, ◌≢◌, ℕ, zero, suc, ◌+◌, ◌<◌, ◌≤◌, le_refl, inl, inr, refl, sym, ap, ◌∙◌, List, [], ◌∷◌, ◌++◌, reverse, Bool, true, false, true≢false, arith}
use Rattle.std.proofs.lemmas.Bool.{and_parts, and_from, eqb-true}
use Rattle.std.proofs.lemmas.Cmp.{nat_eq_equiv}
use Rattle.std.proofs.lemmas.List.{reverse-append, reverse-reverse}
use Rattle.std.specs.Prelude.{◌==◌, not}
use Rattle.std.specs.List.{Contains, list_any}
use Rattle.cad_rings.specs.Cycle.{Side, opposite}
use Rattle.cad_rings.specs.Surgery.{sides_of_chain}
use Rattle.cad_map.specs.Chain.{are_distinct}
use Rattle.cad_map.specs.Steps.{steps, turns_back, runs_back}
use Rattle.cad_map.proofs.Lists.Elements.{Contains-cases, Contains-first, Contains-later, list_any-Contains}
use Rattle.cad_map.proofs.Lists.ElementFacts.{list_any-none}

-- two lists with one more element each
pub push-same : {X : Type 0} (xs ys : List X) (x y : X) → xs ++ x ∷ [] ≡ ys ++ y ∷ [] → (xs ≡ ys) × (x ≡ y)
push-same xs ys x y same =
    let e : x ∷ reverse xs ≡ y ∷ reverse ys = sym (reverse-append xs (x ∷ [])) ∙ ap reverse same ∙ reverse-append ys (y ∷ []) in
    let others : reverse xs ≡ reverse ys = cc in
    (sym (reverse-reverse xs) ∙ ap reverse others ∙ reverse-reverse ys, cc)

pub reverse-more : {X : Type 0} (x : X) (xs : List X) → reverse (x ∷ xs) ≡ reverse xs ++ x ∷ []
reverse-more x xs = reverse-append (x ∷ []) xs

-- the first points of the side and of so many sides after it
abbrev pub points_along : (Side → Side) → Side → ℕ → List ℕ
points_along next s zero = s.0 ∷ []
points_along next s (suc n) = s.0 ∷ points_along next (next s) n

module _ (next : Side → Side) where
  pub step-last : (n : ℕ) (s : Side) → steps next n (next s) ≡ next (steps next n s)
  step-last zero s = refl
  step-last (suc n) s = step-last n (next s)

  pub steps-add : (m n : ℕ) (s : Side) → steps next n (steps next m s) ≡ steps next (m + n) s
  steps-add zero n s = let e : n ≡ 0 + n = omega arith in ap (λ (k : ℕ). steps next k s) e
  steps-add (suc m) n s = let e : suc (m + n) ≡ suc m + n = omega arith in steps-add m n (next s) ∙ ap (λ (k : ℕ). steps next k s) e

  -- the last of the points along some steps
  pub points_along-end : (n : ℕ) (s : Side) → points_along next s (suc n) ≡ points_along next s n ++ (steps next (suc n) s).0 ∷ []
  points_along-end zero s = refl
  points_along-end (suc n) s = ap (λ (l : List ℕ). s.0 ∷ l) (points_along-end n (next s))

  pub points_along-Contains : (i n : ℕ) (s : Side) → i ≤ n → Contains (points_along next s n) (steps next i s).0
  points_along-Contains zero zero s within = Contains-first s.0 []
  points_along-Contains zero (suc n) s within = Contains-first s.0 (points_along next (next s) n)
  points_along-Contains (suc i) zero s within = absurd (omega arith)
  points_along-Contains (suc i) (suc n) s within = Contains-later s.0 (points_along next (next s) n) (steps next i (next s)).0 (points_along-Contains i n (next s) (omega arith))

  -- a point along some steps is the first of one of their sides, or the last
  pub points_along-place : (n : ℕ) (s : Side) (y : ℕ) → Contains (points_along next s n) y → (q : ℕ) × (q ≤ n) × (y ≡ (steps next q s).0)
  points_along-place zero s y h = elim (Contains-cases s.0 [] y h) [ inl is ↦ (0, omega arith, sym is) | inr none ↦ let low = none.1 in absurd (omega arith) ]
  points_along-place (suc n) s y h = elim (Contains-cases s.0 (points_along next (next s) n) y h) [
    | inl is ↦ (0, omega arith, sym is)
    | inr later ↦ let at = points_along-place n (next s) y later in let within = at.1 in (suc at.0, omega arith, at.2)
  ]

  -- the sides along its points are those that the steps lead to
  pub points_along-side : ((s : Side) → (next s).0 ≡ s.1) → (n : ℕ) (s t : Side) → Contains (sides_of_chain (points_along next s n)) t → (q : ℕ) × (q < n) × (t ≡ steps next q s)
  points_along-side joins zero s t h = let low = h.1 in absurd (omega arith)
  points_along-side joins (suc zero) s t h = elim (Contains-cases (s.0, (next s).0) [] t h) [
    | inl is ↦ (0, omega arith, sym is ∙ (λ i. (s.0, joins s i)))
    | inr none ↦ let low = none.1 in absurd (omega arith)
  ]
  points_along-side joins (suc (suc n)) s t h = elim (Contains-cases (s.0, (next s).0) (sides_of_chain (points_along next (next s) (suc n))) t h) [
    | inl is ↦ (0, omega arith, sym is ∙ (λ i. (s.0, joins s i)))
    | inr later ↦ let at = points_along-side joins (suc n) (next s) t later in let within = at.1 in (suc at.0, omega arith, at.2)
  ]

  -- where no two of them are one, its points differ
  pub points_along-distinct : (n : ℕ) (s : Side) → ((i j : ℕ) → i < j → j ≤ n → (steps next i s).0 ≢ (steps next j s).0) → are_distinct (points_along next s n) ≡ true
  points_along-distinct zero s apart = refl
  points_along-distinct (suc n) s apart =
      rw (list_any-none (λ p. s.0 == p) (points_along next (next s) n) other) (points_along-distinct n (next s) (λ i j less within. apart (suc i) (suc j) (omega arith) (omega arith)))
    where
      other : (y : ℕ) → Contains (points_along next (next s) n) y → (s.0 == y) ≡ false
      other y there = by (s.0 == y) refl
        where
          by : (b : Bool) → (s.0 == y) ≡ b → b ≡ false
          by true is = let at = points_along-place n (next s) y there in let within = at.1 in absurd (apart 0 (suc at.0) (omega arith) (omega arith) (eqb-true s.0 y is ∙ at.2))
          by false is = refl

  -- steps whose points differ aren't back at their first side
  pub distinct-away : (i n : ℕ) (s : Side) → are_distinct (points_along next s n) ≡ true → suc i ≤ n → steps next (suc i) s ≢ s
  distinct-away i zero s distinct within same = absurd (omega arith)
  distinct-away i (suc n) s distinct within same =
      let others = points_along next (next s) n in
      let point = (steps next i (next s)).0 in
      let equal : (s.0 == point) ≡ true = ap (λ (t : Side). s.0 == t.0) same ∙ nat_eq_equiv.refl s.0 in
      let some = list_any-Contains (λ p. s.0 == p) others point (points_along-Contains i n (next s) (omega arith)) equal in
      true≢false (sym (and_parts (not (list_any (λ p. s.0 == p) others)) (are_distinct others) distinct).0 ∙ ap not some)

  -- and leads to another point than it begins with
  pub distinct-open : ((s : Side) → (next s).0 ≡ s.1) → (n : ℕ) (s : Side) → are_distinct (points_along next s (suc n)) ≡ true → (s.0 == (steps next n s).1) ≡ false
  distinct-open joins n s distinct = by (s.0 == (steps next n s).1) refl
    where
      others : List ℕ
      others = points_along next (next s) n

      last : (steps next n (next s)).0 ≡ (steps next n s).1
      last = ap (λ (t : Side). t.0) (step-last n s) ∙ joins (steps next n s)

      by : (b : Bool) → (s.0 == (steps next n s).1) ≡ b → b ≡ false
      by true is =
          let some = list_any-Contains (λ p. s.0 == p) others (steps next n (next s)).0 (points_along-Contains n n (next s) (le_refl n)) (ap (λ (p : ℕ). s.0 == p) last ∙ is) in
          absurd (true≢false (sym (and_parts (not (list_any (λ p. s.0 == p) others)) (are_distinct others) distinct).0 ∙ ap not some))
      by false none = refl

  pub runs_back-first : (m n : ℕ) (s : Side) → runs_back next s (m + n) ≡ true → runs_back next s m ≡ true
  runs_back-first zero n s runs = refl
  runs_back-first (suc m) n s runs =
      let more : suc (m + n) ≡ suc m + n = omega arith in
      let e : runs_back next s (suc (m + n)) ≡ true = ap (λ (k : ℕ). runs_back next s k) more ∙ runs in
      let parts = and_parts (turns_back next s) (runs_back next (next s) (m + n)) e in
      and_from (turns_back next s) (runs_back next (next s) m) parts.0 (runs_back-first m n (next s) parts.1)

  pub runs_back-later : (m n : ℕ) (s : Side) → runs_back next s (m + n) ≡ true → runs_back next (steps next m s) n ≡ true
  runs_back-later zero n s runs = let e : n ≡ 0 + n = omega arith in ap (λ (k : ℕ). runs_back next s k) e ∙ runs
  runs_back-later (suc m) n s runs =
      let more : suc (m + n) ≡ suc m + n = omega arith in
      let e : runs_back next s (suc (m + n)) ≡ true = ap (λ (k : ℕ). runs_back next s k) more ∙ runs in
      runs_back-later m n (next s) (and_parts (turns_back next s) (runs_back next (next s) (m + n)) e).1

  module _ (joins : (s : Side) → (next s).0 ≡ s.1) where
    -- Where the opposites follow one another backwards, so many steps back lead to the opposite of the first side.
    pub steps-back : (n : ℕ) (s : Side) → runs_back next s n ≡ true → steps next n (opposite (steps next n s)) ≡ opposite s
    steps-back zero s runs = refl
    steps-back (suc n) s runs =
        let parts = and_parts (turns_back next s) (runs_back next (next s) n) runs in
        let t = opposite (steps next n (next s)) in
        let turned : next (opposite (next s)) ≡ opposite s = λ i. ((joins (opposite (next s)) ∙ joins s) i, eqb-true (next (opposite (next s))).1 s.0 parts.0 i) in
        step-last n t ∙ ap next (steps-back n (next s) parts.1) ∙ turned

    -- and the steps back have the points in the other order
    pub points_along-back : (n : ℕ) (s : Side) → runs_back next s n ≡ true → points_along next (opposite (steps next n s)) (suc n) ≡ reverse (points_along next s (suc n))
    points_along-back zero s runs = (λ i. s.1 ∷ joins (opposite s) i ∷ []) ∙ sym (reverse-more s.0 ((next s).0 ∷ []) ∙ (λ i. joins s i ∷ s.0 ∷ []))
    points_along-back (suc n) s runs =
        let parts = and_parts (turns_back next s) (runs_back next (next s) n) runs in
        let t = opposite (steps next n (next s)) in
        let last : (steps next (suc (suc n)) t).0 ≡ s.0 =
        ap (λ (u : Side). u.0) (step-last (suc n) t) ∙ joins (steps next (suc n) t) ∙ ap (λ (u : Side). u.1) (steps-back (suc n) s runs) in
        points_along-end (suc n) t ∙ (λ i. points_along-back n (next s) parts.1 i ++ last i ∷ []) ∙ sym (reverse-more s.0 (points_along next (next s) (suc n)))

    -- The other way round: where the points along the steps from t are those from s in the other order, the sides are the opposites.
    pub runs_back-from : (n : ℕ) (s t : Side) → points_along next t (suc n) ≡ reverse (points_along next s (suc n)) → (runs_back next s n ≡ true) × (steps next n t ≡ opposite s)
    runs_back-from zero s t same =
        let e : t.0 ∷ t.1 ∷ [] ≡ s.1 ∷ s.0 ∷ [] = (λ i. t.0 ∷ sym (joins t) i ∷ []) ∙ same ∙ reverse-more s.0 ((next s).0 ∷ []) ∙ (λ i. joins s i ∷ s.0 ∷ []) in
        let first : t.0 ≡ s.1 = cc in
        let second : t.1 ≡ s.0 = cc in
        (refl, λ i. (first i, second i))
    runs_back-from (suc n) s t same =
        let e = sym (points_along-end (suc n) t) ∙ same ∙ reverse-more s.0 (points_along next (next s) (suc n)) in
        let parts = push-same (points_along next t (suc n)) (reverse (points_along next (next s) (suc n))) (steps next (suc (suc n)) t).0 s.0 e in
        let rest = runs_back-from n (next s) t parts.0 in
        let on : steps next (suc n) t ≡ next (opposite (next s)) = step-last n t ∙ ap next rest.1 in
        let back : (next (opposite (next s))).1 ≡ s.0 = ap (λ (u : Side). u.1) (sym on) ∙ sym (joins (steps next (suc n) t)) ∙ ap (λ (u : Side). u.0) (sym (step-last (suc n) t)) ∙ parts.1 in
        let turns : turns_back next s ≡ true = ap (λ (p : ℕ). p == s.0) back ∙ nat_eq_equiv.refl s.0 in
        (and_from (turns_back next s) (runs_back next (next s) n) turns rest.0, on ∙ (λ i. ((joins (opposite (next s)) ∙ joins s) i, back i)))
