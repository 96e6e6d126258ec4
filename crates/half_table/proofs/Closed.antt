-- In a table each half lies on a cycle.
use Rattle.std.proofs.Common.{◌≡◌, ℕ, ◌≤◌, zero, suc, Bool, true, false, ◌||◌, List, [], ◌∷◌, length, refl, sym, ap, ◌∙◌, subst, ◌⊎◌, inl, inr, arith, true≢false, if◌then◌else◌}
use Rattle.std.proofs.lemmas.Map.Made.{length-le_from_is_member}
use Rattle.std.specs.Cmp.{IsEquivalence}
use Rattle.std.specs.List.{IsDistinct, AllByRecursion}
use Rattle.half_table.specs.declared.half.Half.{Half}
use Rattle.half_table.specs.Half.{is_half}
use Rattle.half_table.specs.Cycle.{holds, IsOnce, IsWalk, IsCycle, IsRun, orbit}
use Rattle.half_table.specs.Rows.{HalfRows, has, next, prev, halves, cycle, IsLinked, HasCycle}
use Rattle.half_table.proofs.Halves.{is_half-self, is_half-same, is_half-turned}
use Rattle.half_table.proofs.Strings.{in_halves}
use Rattle.half_table.proofs.Cycles.{or_true, or_right, or_false, walk-passes}

same_tests : (a b : Bool) → (a ≡ true → b ≡ true) → (b ≡ true → a ≡ true) → a ≡ b
same_tests true b f g = sym (f refl)
same_tests false true f g = g refl
same_tests false false f g = refl

is_half-symm : (x y : Half) → is_half x y ≡ is_half y x
is_half-symm x y = same_tests (is_half x y) (is_half y x) (λ e. subst (λ z. is_half z x ≡ true) (is_half-same x y e) (is_half-self x)) (λ e. subst (λ z. is_half z y ≡ true) (is_half-same y x e) (is_half-self y))

is_half-equiv : IsEquivalence is_half
is_half-equiv = record { refl = is_half-self; symm = is_half-symm; congr = λ x y z e. ap (λ w. is_half w z) (is_half-same x y e) }

none_there : (xs : List Half) (x : Half) → holds xs x ≡ false → AllByRecursion (λ y. is_half x y ≡ false) xs
none_there [] x h = tt
none_there (y ∷ ys) x h = let p = or_false (is_half x y) (holds ys x) h in (p.0, none_there ys x p.1)

distinct : (xs : List Half) → IsOnce xs → IsDistinct is_half xs
unfolding IsDistinct
distinct [] o = tt
distinct (x ∷ xs) o = (none_there xs x o.0, distinct xs o.1)

module _ (nx : Half → Half) (h : Half) where
  run_or_full : (n : ℕ) (at : Half) → IsRun nx h at (orbit nx n h at) ⊎ (length (orbit nx n h at) ≡ n)
  run_or_full zero at = inr refl
  run_or_full (suc n) at = by (is_half at h) refl (run_or_full n (nx at))
    where
      by : (b : Bool) → is_half at h ≡ b → IsRun nx h (nx at) (orbit nx n h (nx at)) ⊎ (length (orbit nx n h (nx at)) ≡ n)
          → IsRun nx h at (if b then [] else at ∷ orbit nx n h (nx at)) ⊎ (length (if b then [] else at ∷ orbit nx n h (nx at)) ≡ suc n)
      by true e r = inl (is_half-same at h e)
      by false e (inl r) = inl (refl, e, r)
      by false e (inr r) = inr (ap suc r)

  no_stop : (n : ℕ) (at : Half) → holds (orbit nx n h at) h ≡ false
  no_stop zero at = refl
  no_stop (suc n) at = by (no_stop n (nx at)) (is_half at h) refl
    where
      by : holds (orbit nx n h (nx at)) h ≡ false → (b : Bool) → is_half at h ≡ b → holds (if b then [] else at ∷ orbit nx n h (nx at)) h ≡ false
      by ih true e = refl
      by ih false e = ap (λ v. v || holds (orbit nx n h (nx at)) h) (is_half-turned at h e) ∙ ih

  -- where a run is known, the orbit is it
  pub orbit-is : (n : ℕ) (at : Half) (xs : List Half) → IsRun nx h at xs → length xs ≤ n → orbit nx n h at ≡ xs
  orbit-is zero at [] r le = refl
  orbit-is zero at (x ∷ xs) r le = absurd (omega arith)
  orbit-is (suc n) at [] r le = ap (λ b. if b then [] else at ∷ orbit nx n h (nx at)) (subst (λ z. is_half at z ≡ true) r (is_half-self at))
  orbit-is (suc n) at (x ∷ xs) r le =
      ap (λ b. if b then [] else at ∷ orbit nx n h (nx at)) r.1 ∙ (λ i. r.0 i ∷ orbit-is n (nx at) xs r.2 (omega arith) i)

  module _ (injective : (x y : Half) → nx x ≡ nx y → x ≡ y) where
    not_later : (n : ℕ) (b x : Half) → holds (orbit nx n h (nx b)) (nx x) ≡ true → holds (b ∷ orbit nx n h (nx b)) x ≡ true
    not_later zero b x e = absurd (true≢false (sym e))
    not_later (suc n) b x e = by (is_half (nx b) h) (not_later n (nx b) x) e
      where
        by : (v : Bool) → (holds (orbit nx n h (nx (nx b))) (nx x) ≡ true → holds (nx b ∷ orbit nx n h (nx (nx b))) x ≡ true)
            → holds (if v then [] else nx b ∷ orbit nx n h (nx (nx b))) (nx x) ≡ true → holds (b ∷ (if v then [] else nx b ∷ orbit nx n h (nx (nx b)))) x ≡ true
        by true ih e = absurd (true≢false (sym e))
        by false ih e = elim (or_true (is_half (nx x) (nx b)) (holds (orbit nx n h (nx (nx b))) (nx x)) e) [
          | inl s ↦ ap (λ w. w || holds (nx b ∷ orbit nx n h (nx (nx b))) x) (subst (λ z. is_half x z ≡ true) (injective x b (is_half-same (nx x) (nx b) s)) (is_half-self x))
          | inr t ↦ or_right (is_half x b) (holds (nx b ∷ orbit nx n h (nx (nx b))) x) (ih t)
        ]

    once : (n : ℕ) (p : Half) → holds (orbit nx n h (nx p)) p ≡ false → IsOnce (orbit nx n h (nx p))
    once zero p e = tt
    once (suc n) p e = by (is_half (nx p) h) (once n (nx p)) e
      where
        by : (v : Bool) → (holds (orbit nx n h (nx (nx p))) (nx p) ≡ false → IsOnce (orbit nx n h (nx (nx p))))
            → holds (if v then [] else nx p ∷ orbit nx n h (nx (nx p))) p ≡ false → IsOnce (if v then [] else nx p ∷ orbit nx n h (nx (nx p)))
        by true ih e = tt
        by false ih e = let q = absent (holds (orbit nx n h (nx (nx p))) (nx p)) refl in (q, ih q)
          where
            absent : (w : Bool) → holds (orbit nx n h (nx (nx p))) (nx p) ≡ w → holds (orbit nx n h (nx (nx p))) (nx p) ≡ false
            absent false s = s
            absent true s = absurd (true≢false (sym (not_later n (nx p) p s) ∙ e))

module _ (rows : HalfRows) (linked : IsLinked rows) where
  -- no two halves have the same next
  pub next-injective : (x y : Half) → next rows x ≡ next rows y → x ≡ y
  next-injective x y e = sym (linked.prev_next x) ∙ ap (prev rows) e ∙ linked.prev_next y

  all_in : (h : Half) (n : ℕ) (at q : Half) → has rows at ≡ true → holds (orbit (next rows) n h at) q ≡ true → has rows q ≡ true
  all_in h zero at q e s = absurd (true≢false (sym s))
  all_in h (suc n) at q e s = by (is_half at h) (all_in h n (next rows at) q (linked.inside at ∙ e)) s
    where
      by : (v : Bool) → (holds (orbit (next rows) n h (next rows at)) q ≡ true → has rows q ≡ true)
          → holds (if v then [] else at ∷ orbit (next rows) n h (next rows at)) q ≡ true → has rows q ≡ true
      by true ih s = absurd (true≢false (sym s))
      by false ih s = elim (or_true (is_half q at) (holds (orbit (next rows) n h (next rows at)) q) s) [
        | inl t ↦ ap (has rows) (is_half-same q at t) ∙ e
        | inr t ↦ ih t
      ]

  -- halves of the table, none twice, are at most all of them
  pub few : (xs : List Half) → IsOnce xs → ((q : Half) → holds xs q ≡ true → has rows q ≡ true) → length xs ≤ length (halves rows)
  few xs o inside = length-le_from_is_member is_half-equiv xs (halves rows) (distinct xs o) (λ q e. in_halves rows q (inside q e))

  pub cycle-once : (h : Half) → IsOnce (cycle rows h)
  cycle-once h =
      let n = length (halves rows) in
      let out = no_stop (next rows) h n (next rows h) in
      (out, once (next rows) h next-injective n h out)

  pub cycle-inside : (h q : Half) → has rows h ≡ true → holds (cycle rows h) q ≡ true → has rows q ≡ true
  cycle-inside h q e s = elim (or_true (is_half q h) (holds (orbit (next rows) (length (halves rows)) h (next rows h)) q) s) [
    | inl t ↦ ap (has rows) (is_half-same q h t) ∙ e
    | inr t ↦ all_in h (length (halves rows)) (next rows h) q (linked.inside h ∙ e) t
  ]

  -- the cycle of h closes
  pub cycle-closes : (h : Half) → has rows h ≡ true → IsRun (next rows) h (next rows h) (orbit (next rows) (length (halves rows)) h (next rows h))
  cycle-closes h e =
      elim (run_or_full (next rows) h (length (halves rows)) (next rows h)) [
        | inl r ↦ r
        | inr full ↦ absurd (too_many full)
      ]
    where
      too_many : length (orbit (next rows) (length (halves rows)) h (next rows h)) ≡ length (halves rows) → ⊥
      too_many full =
          let le : length (cycle rows h) ≤ length (halves rows) = few (cycle rows h) (cycle-once h) (λ q s. cycle-inside h q e s) in
          omega arith

-- a run is a walk
pub run-walk : (nx : Half → Half) (h a : Half) (xs : List Half) → IsRun nx h (nx a) xs → IsWalk nx a xs h
run-walk nx h a [] r = r
run-walk nx h a (x ∷ xs) r = (r.0, run-walk nx h x xs (subst (λ z. IsRun nx h (nx z) xs) r.0 r.2))

pub walk-run : (nx : Half → Half) (h a : Half) (xs : List Half) → holds xs h ≡ false → IsWalk nx a xs h → IsRun nx h (nx a) xs
walk-run nx h a [] free w = w
walk-run nx h a (x ∷ xs) free w =
    let p = or_false (is_half h x) (holds xs h) free in
    (w.0, subst (λ z. is_half z h ≡ false) (sym w.0) (is_half-turned h x p.0), subst (λ z. IsRun nx h (nx z) xs) (sym w.0) (walk-run nx h x xs p.1 w.1))

-- the halves from h on are a cycle, and the only one that begins with h
pub cycle-is : (rows : HalfRows) → IsLinked rows → (h : Half) → has rows h ≡ true → IsCycle (next rows) (cycle rows h)
cycle-is rows linked h e = (run-walk (next rows) h h _ (cycle-closes rows linked h e), cycle-once rows linked h)

-- a cycle through a half of the table lies in it
pub has-cycle : (rows : HalfRows) → IsLinked rows → (h : Half) (xs : List Half) → has rows h ≡ true → IsCycle (next rows) (h ∷ xs) → HasCycle rows (h ∷ xs)
has-cycle rows linked h xs e c = record {
  closes = c;
  inside = λ q s. elim (or_true (is_half q h) (holds xs q) s) [
    | inl t ↦ ap (has rows) (is_half-same q h t) ∙ e
    | inr t ↦ (walk-passes (next rows) (has rows) (λ x x_in. linked.inside x ∙ x_in) h h xs e c.0).0 q t
  ];
}

pub has-cycle-of : (rows : HalfRows) → IsLinked rows → (h : Half) → has rows h ≡ true → HasCycle rows (cycle rows h)
has-cycle-of rows linked h e = has-cycle rows linked h _ e (cycle-is rows linked h e)

pub cycle-only : (rows : HalfRows) → IsLinked rows → (h : Half) (xs : List Half) → HasCycle rows (h ∷ xs) → cycle rows h ≡ h ∷ xs
cycle-only rows linked h xs c =
    let le : length (h ∷ xs) ≤ length (halves rows) = few rows linked (h ∷ xs) c.closes.1 c.inside in
    ap (λ t. h ∷ t) (orbit-is (next rows) h (length (halves rows)) (next rows h) xs (walk-run (next rows) h h xs c.closes.1.0 c.closes.0) (omega arith))

-- where the cycle of a half is one of another table too, it is its cycle there
pub cycle-same : (old new : HalfRows) → IsLinked new → (h : Half) → HasCycle new (cycle old h) → cycle new h ≡ cycle old h
cycle-same old new linked h c = cycle-only new linked h _ c

orbit-length : (nx : Half → Half) (h : Half) (n : ℕ) (at : Half) → length (orbit nx n h at) ≤ n
orbit-length nx h zero at = omega arith
orbit-length nx h (suc n) at = by (is_half at h) (orbit-length nx h n (nx at))
  where
    by : (b : Bool) → length (orbit nx n h (nx at)) ≤ n → length (if b then [] else at ∷ orbit nx n h (nx at)) ≤ suc n
    by true ih = omega arith
    by false ih = omega arith

pub ahead-ended : (nx : Half → Half) (h : Half) (n : ℕ) (at : Half) → IsRun nx h at (orbit nx n h at) → is_half at h ≡ true → orbit nx n h at ≡ []
ahead-ended nx h n at r e = by (orbit nx n h at) r
  where
    by : (xs : List Half) → IsRun nx h at xs → xs ≡ []
    by [] r = refl
    by (x ∷ xs) r = absurd (true≢false (sym e ∙ r.1))

pub ahead-more : (nx : Half → Half) (h : Half) (n : ℕ) (at : Half) → IsRun nx h at (orbit nx n h at) → is_half at h ≡ false
    → (orbit nx n h at ≡ at ∷ orbit nx n h (nx at)) × IsRun nx h (nx at) (orbit nx n h (nx at))
ahead-more nx h n at r e = by (orbit nx n h at) refl r (orbit-length nx h n at)
  where
    by : (xs : List Half) → orbit nx n h at ≡ xs → IsRun nx h at xs → length xs ≤ n → (orbit nx n h at ≡ at ∷ orbit nx n h (nx at)) × IsRun nx h (nx at) (orbit nx n h (nx at))
    by [] is r le = absurd (true≢false (sym (subst (λ z. is_half at z ≡ true) r (is_half-self at)) ∙ e))
    by (x ∷ xs) is r le =
        let rest : orbit nx n h (nx at) ≡ xs = orbit-is nx h n (nx at) xs r.2 (omega arith) in
        (is ∙ (λ i. sym r.0 i ∷ sym rest i), subst (λ l. IsRun nx h (nx at) l) (sym rest) r.2)
