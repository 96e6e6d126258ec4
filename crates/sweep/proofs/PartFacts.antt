-- Boxes of groups: what is told of pairs of them.
use Rattle.std.proofs.Common.{◌≡◌, ◌∙◌, refl, ℕ, zero, suc, ◌+◌, ◌<◌, ◌≤◌, List, [], ◌∷◌, length, get_or, filter, Bool, true, false, true≢false, sym, ap, subst, ◌⊎◌, inl, inr, arith}
use Rattle.std.specs.Prelude.{nat_lt, nat_le}
use Rattle.std.specs.List.{Contains}
use Rattle.std.specs.Global.{Vec}
use Rattle.std.specs.List.Sorted.{IsPermutation}
use Rattle.std.proofs.lemmas.Bool.{cases_lt}
use Rattle.std.proofs.lemmas.Bool.Decides.{nat_tests}
use Rattle.std.proofs.lemmas.List.{get_or_default}
use Rattle.std.proofs.lemmas.List.Elements.{Contains-append_right, All-contains, All-filter, All-contains_itself}
use Rattle.std.proofs.lemmas.List.Sorted.{Contains-permutation, IsPermutation-sym}
use Rattle.sweep.specs.declared.extent.Extent.{Extent}
use Rattle.sweep.specs.declared.part.Part.{Part}
use Rattle.sweep.specs.declared.part.Halves.{Halves}
use Rattle.sweep.specs.Spans.{PassEitherWay}
use Rattle.sweep.specs.Extents.{Overlap, SomePairFails}
use Rattle.sweep.specs.Parts.{overlap, begin_of, end_of, PassBetween, AllBetweenPass, HasFailedPart, AreAlike, AreHalves, ArePartsOf, HavePartsBelow, AllOfTwoGroupsPass}

-- ---- The test of two boxes

pub overlap-false : (a b : Extent) → overlap a b ≡ false → ¬ (Overlap a b)
overlap-false a b none o =
    let p = o.a_left in let q = o.b_left in let r = o.a_bottom in let s = o.b_bottom in
    grind (arith, nat_tests)

overlap-exchanged : (a b : Extent) → Overlap a b → Overlap b a
overlap-exchanged a b o = record { a_left = o.b_left; b_left = o.a_left; a_bottom = o.b_bottom; b_bottom = o.a_bottom }

either-exchanged : (test : ℕ → ℕ → Bool) (i j : ℕ) → PassEitherWay test i j → PassEitherWay test j i
either-exchanged test i j (inl p) = inr p
either-exchanged test i j (inr p) = inl p

-- ---- Halves

filter-in : {X : Type 0} (test : X → Bool) (xs : List X) (x : X) → Contains (filter test xs) x → Contains xs x
filter-in test xs x has = All-contains (Contains xs) (filter test xs) x (All-filter test (Contains xs) xs (All-contains_itself xs)) has

in-filter : {X : Type 0} (test : X → Bool) (xs : List X) (x : X) → Contains xs x → test x ≡ true → Contains (filter test xs) x
in-filter test [] x has passes = let low = has.1 in absurd (omega arith)
in-filter test (y ∷ ys) x has passes = by (test y) refl has.0 has.1 has.2 (λ k within same. in-filter test ys x (k, within, same) passes)
  where
    by : (b : Bool) → test y ≡ b → (k : ℕ) → k < length (y ∷ ys) → get_or (y ∷ ys) k x ≡ x
        → ((j : ℕ) → j < length ys → get_or ys j x ≡ x → Contains (filter test ys) x) → Contains (filter test (y ∷ ys)) x
    by true is zero within same again = rw is (0, omega arith, same)
    by false is zero within same again = absurd (true≢false (sym passes ∙ ap test (sym same) ∙ is))
    by true is (suc k) within same again = rw is (Contains-append_right (y ∷ []) (filter test ys) x (again k (omega arith) same))
    by false is (suc k) within same again = rw is (again k (omega arith) same)

-- boxes that overlap, in one direction
record OverlapAlong (a_begin a_end b_begin b_end : ℕ) : Type 0 where
  a_first : a_begin ≤ b_end
  b_first : b_begin ≤ a_end
  a_order : a_begin ≤ a_end
  b_order : b_begin ≤ b_end

overlap-along : (upwards : Bool) (a b : Part) → Overlap a.extent b.extent → OverlapAlong (begin_of upwards a) (end_of upwards a) (begin_of upwards b) (end_of upwards b)
overlap-along true a b o =
    let p = o.a_bottom in let q = o.b_bottom in
    record { a_first = omega arith; b_first = omega arith; a_order = omega arith; b_order = omega arith }
overlap-along false a b o =
    let p = o.a_left in let q = o.b_left in
    record { a_first = omega arith; b_first = omega arith; a_order = omega arith; b_order = omega arith }

less : (x y : ℕ) → x < y → nat_lt x y ≡ true
less x y h = grind (arith, nat_tests)

at_most : (x y : ℕ) → x ≤ y → nat_le x y ≡ true
at_most x y h = grind (arith, nat_tests)

module _ (parts : List Part) (upwards : Bool) (middle : ℕ) (lower upper : Vec Part) (is_lower : lower.items ≡ filter (λ p. nat_lt (begin_of upwards p) middle) parts) (is_upper : upper.items ≡ filter (λ p. nat_le middle (end_of upwards p)) parts) where
  begins : (a : Part) → Contains parts a → begin_of upwards a < middle → Contains lower.items a
  begins a has lt = rw is_lower (in-filter (λ p. nat_lt (begin_of upwards p) middle) parts a has (less _ _ lt))

  reaches : (a : Part) → Contains parts a → middle ≤ end_of upwards a → Contains upper.items a
  reaches a has le = rw is_upper (in-filter (λ p. nat_le middle (end_of upwards p)) parts a has (at_most _ _ le))

  both-reach : (a b : Part) → Contains parts a → Contains parts b → middle ≤ end_of upwards a → middle ≤ end_of upwards b
      → (Contains lower.items a × Contains lower.items b) ⊎ (Contains upper.items a × Contains upper.items b)
  both-reach a b has_a has_b at_a at_b = inr (reaches a has_a at_a, reaches b has_b at_b)

  pub halves-from : AreHalves parts (record { lower = lower; upper = upper })
  halves-from = record {
    lower_in = λ a has. filter-in (λ p. nat_lt (begin_of upwards p) middle) parts a (rw is_lower at has);
    upper_in = λ a has. filter-in (λ p. nat_le middle (end_of upwards p)) parts a (rw is_upper at has);
    together = λ a b has_a has_b o.
        let along = overlap-along upwards a b o in
        let p = along.a_first in let q = along.b_first in let r = along.a_order in let s = along.b_order in
        elim (cases_lt (begin_of upwards a) middle) [
          | inr ge ↦ both-reach a b has_a has_b (omega (arith, ge, r)) (omega (arith, ge, p))
          | inl lt ↦ elim (cases_lt (begin_of upwards b) middle) [
            | inr ge ↦ both-reach a b has_a has_b (omega (arith, ge, q)) (omega (arith, ge, s))
            | inl lt_too ↦ inl (begins a has_a lt, begins b has_b lt_too)
          ]
        ];
  }

module _ (test : ℕ → ℕ → Bool) (parts : List Part) (halves : Halves) (are : AreHalves parts halves) where
  pub halves-pass : AllBetweenPass test halves.lower.items → AllBetweenPass test halves.upper.items → AllBetweenPass test parts
  halves-pass lower upper a b has_a has_b apart differ o = elim (are.together a b has_a has_b o) [
    | inl both ↦ lower a b both.0 both.1 apart differ o
    | inr both ↦ upper a b both.0 both.1 apart differ o
  ]

  pub lower-failed : HasFailedPart test halves.lower.items → HasFailedPart test parts
  lower-failed f = (f.0, are.lower_in f.0 f.1, (f.2.0, are.lower_in f.2.0 f.2.1, f.2.2, f.2.3))

  pub upper-failed : HasFailedPart test halves.upper.items → HasFailedPart test parts
  upper-failed f = (f.0, are.upper_in f.0 f.1, (f.2.0, are.upper_in f.2.0 f.2.1, f.2.2, f.2.3))

-- ---- One after another

-- each of these before a place passes with all later ones
abbrev pub AreDone : (ℕ → ℕ → Bool) → List Part → ℕ → Type 0
AreDone test parts n = (j k : ℕ) (d : Part) → j < n → j < k → k < length parts → PassBetween test (get_or parts j d) (get_or parts k d)

module _ (test : ℕ → ℕ → Bool) (parts : List Part) where
  pub all-done : (n : ℕ) → length parts ≤ n → AreDone test parts n → AllBetweenPass test parts
  all-done n all done a b has_a has_b apart differ o =
      let at_a : get_or parts has_a.0 a ≡ a = has_a.2 in
      let at_b : get_or parts has_b.0 a ≡ b = get_or_default parts has_b.0 a b has_b.1 ∙ has_b.2 in
      let in_a = has_a.1 in let in_b = has_b.1 in
      elim (cases_lt has_a.0 has_b.0) [
        | inl lt ↦ subst (λ (s : Part × Part). PassBetween test s.0 s.1) (λ i. (at_a i, at_b i)) (done has_a.0 has_b.0 a (omega (arith, lt, in_b, all)) lt in_b) apart differ o
        | inr ge ↦ elim (cases_lt has_b.0 has_a.0) [
          | inl gt ↦
              either-exchanged test b.place a.place
              (subst (λ (s : Part × Part). PassBetween test s.0 s.1) (λ i. (at_b i, at_a i)) (done has_b.0 has_a.0 a (omega (arith, gt, in_a, all)) gt in_a) (λ e. apart (sym e)) (λ e. differ (sym e))
              (overlap-exchanged a.extent b.extent o))
          | inr le ↦
              let same : has_a.0 ≡ has_b.0 = omega (arith, ge, le) in
              absurd (apart (ap (λ (p : Part). p.place) (sym at_a ∙ ap (λ (k : ℕ). get_or parts k a) same ∙ at_b)))
        ]
      ]

  -- and one more, with those of its group up to an end, and with all from there on
  pub done-more : (n end : ℕ) → n < end → AreDone test parts n → AreAlike parts n end
      → ((k : ℕ) (d : Part) → end ≤ k → k < length parts → PassBetween test (get_or parts n d) (get_or parts k d)) → AreDone test parts (n + 1)
  done-more n end some done alike later j k d below after within = elim (cases_lt j n) [
    | inl lt ↦ done j k d lt after within
    | inr ge ↦
        let same : j ≡ n = omega arith in
        rw same (elim (cases_lt k end) [
          | inl lt ↦ λ apart differ o. absurd (differ (alike n k d (omega arith) some (omega arith) lt))
          | inr ge_end ↦ later k d ge_end within
        ])
  ]

-- ---- All of them

module _ (test : ℕ → ℕ → Bool) (parts sorted : List Part) (moved : IsPermutation parts sorted) where
  pub of-parts : (extents : List Extent) (groups : List ℕ) → ArePartsOf extents groups parts → AllBetweenPass test sorted → AllOfTwoGroupsPass test extents groups
  of-parts extents groups each all i j d in_i in_j differ o =
      all _ _ (Contains-permutation parts sorted _ moved (each i d in_i)) (Contains-permutation parts sorted _ moved (each j d in_j))
      (λ same. differ (ap (λ (k : ℕ). get_or groups k 0) same)) differ o

  pub some-fails : (n : ℕ) → HavePartsBelow parts n → HasFailedPart test sorted → SomePairFails test n
  some-fails n below f =
      let back = IsPermutation-sym parts sorted moved in
      (f.0.place, f.2.0.place, f.2.2, f.2.3, below f.0 (Contains-permutation sorted parts f.0 back f.1), below f.2.0 (Contains-permutation sorted parts f.2.0 back f.2.1))
