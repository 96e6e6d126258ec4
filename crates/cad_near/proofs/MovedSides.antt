-- Past a position that a point went past with all its sides, or with none, the same rings go.
-- The sides of a ring that change are those at the point, and they are two for each time that the
-- ring passes it. Where all of them change how they are counted, or none, the parity stays.
use Rattle.std.proofs.Common.{◌≡◌, ◌≢◌, ℕ, ℤ, ◌≤ℤ◌, ◌<ℤ◌, ◌⊎◌, inl, inr, refl, sym, ap, ◌∙◌, List, [], ◌∷◌, Bool, true, false, not, cond, true≢false, arith, ◌==◌}
use Rattle.std.proofs.Math.Bool.{or_comm}
use Rattle.std.proofs.lemmas.Bool.{eqb-true, and_from, or_right}
use Rattle.std.proofs.lemmas.Int.{ints, by_lt_z}
use Rattle.std.specs.List.{AllByRecursion, list_all}
use Rattle.geo_exact.specs.Position.{Position}
use Rattle.geo_exact.specs.Inside.{is_counted, is_counted_upwards, is_inside}
use Rattle.geo_exact.specs.SignTest.{boxes_overlap, overlaps}
use Rattle.cad_rings.specs.Cycle.{Ring, Side, sides_along, sides_of, placed}
use Rattle.cad_map.specs.Touched.{Moved}
use Rattle.cad_map.proofs.CallerLemmas.{All-follows}
use Rattle.cad_near.specs.declared.rays.Ray.{Ray}
use Rattle.cad_near.specs.declared.seen.Reach.{Reach}
use Rattle.cad_near.specs.Moves.{position_before, is_counted_anew, goes_past_alike}
use Rattle.cad_near.specs.Seen.{IsInReach}
use Rattle.cad_valid.proofs.CallerLemmas.{differ, differ-none, low, counted-left, inside-cons, right_of, rises_past}

-- ---- One of two, and not both

pub differ-itself : (a : Bool) → differ a a ≡ false
differ-itself true = refl
differ-itself false = refl

-- what is common to two differences doesn't count
differ-through : (a b c : Bool) → differ (differ a b) (differ a c) ≡ differ b c
differ-through a b c = grind arith

-- two changes one after the other
differ-both : (c i x y z : Bool) → differ (differ c (differ x y)) (differ i (differ y z)) ≡ differ (differ c i) (differ x z)
differ-both c i x y z = grind arith

-- ---- One side

-- a side is counted the same from both of its ends
counted-turned : (a b q : Position) → is_counted a b q ≡ is_counted b a q
counted-turned a b q = or_comm (is_counted_upwards a b q) (is_counted_upwards b a q)

-- where the count changes so, it is the one before, changed
changed-by : (now before anew : Bool) → differ now before ≡ anew → now ≡ differ before anew
changed-by true true anew is = ap not is
changed-by true false anew is = is
changed-by false true anew is = ap not is
changed-by false false anew is = is

module _ (position : ℕ → Position) (v : Moved) (q : Position) (anew : Bool) where
  abbrev at : Position
  at = position v.point

  abbrev before : ℕ → Position
  before = position_before position v

  -- the side is one of the point's, from it or to it, and with the move changes as all of them do
  pub record IsAlike (s : Side) : Type 0 where
    pub out : s.0 ≡ v.point → (s.1 ≢ v.point) × (is_counted_anew at v.from q (position s.1) ≡ anew)
    pub back : s.1 ≡ v.point → (s.0 ≢ v.point) × (is_counted_anew at v.from q (position s.0) ≡ anew)

  -- what the change of the count comes to at an end of a side
  abbrev change : ℕ → Bool
  change p = cond (p == v.point) anew false

  counted-anew : (s : Side) → IsAlike s → is_counted (position s.0) (position s.1) q
      ≡ differ (is_counted (before s.0) (before s.1) q) (differ (change s.0) (change s.1))
  counted-anew s alike = by (s.0 == v.point) (s.1 == v.point) refl refl
    where
      same : (b : Bool) → b ≡ differ b (differ false false)
      same b = sym (differ-none b)

      by : (x y : Bool) → (s.0 == v.point) ≡ x → (s.1 == v.point) ≡ y → is_counted (position s.0) (position s.1) q
          ≡ differ (is_counted (before s.0) (before s.1) q) (differ (change s.0) (change s.1))
      by true true is_out is_back = absurd ((alike.out (eqb-true s.0 v.point is_out)).0 (eqb-true s.1 v.point is_back))
      by true false is_out is_back =
          let from = eqb-true s.0 v.point is_out in
          let changed = changed-by (is_counted (position s.1) at q) (is_counted (position s.1) v.from q) anew (alike.out from).1 in
          rw (is_out, is_back)
          (ap (λ (p : ℕ). is_counted (position p) (position s.1) q) from ∙ counted-turned at (position s.1) q ∙ changed
          ∙ (λ i. differ (counted-turned (position s.1) v.from q i) (sym (differ-none anew) i)))
      by false true is_out is_back =
          let to = eqb-true s.1 v.point is_back in
          let changed = changed-by (is_counted (position s.0) at q) (is_counted (position s.0) v.from q) anew (alike.back to).1 in
          rw (is_out, is_back) (ap (λ (p : ℕ). is_counted (position s.0) (position p) q) to ∙ changed)
      by false false is_out is_back = rw (is_out, is_back) (same (is_counted (position s.0) (position s.1) q))

  -- ---- All sides of a ring

  along : (a : ℕ) (points : List ℕ) (z : ℕ) → AllByRecursion IsAlike (sides_along a points z)
      → is_inside (placed position (sides_along a points z)) q
      ≡ differ (is_inside (placed before (sides_along a points z)) q) (differ (change a) (change z))
  along a [] z all =
      inside-cons (position a, position z) [] q ∙ differ-none (is_counted (position a) (position z) q)
      ∙ counted-anew (a, z) all.0
      ∙ ap (λ (b : Bool). differ b (differ (change a) (change z))) (sym (inside-cons (before a, before z) [] q ∙ differ-none (is_counted (before a) (before z) q)))
  along a (b ∷ points) z all =
      inside-cons (position a, position b) (placed position (sides_along b points z)) q
      ∙ (λ i. differ (counted-anew (a, b) all.0 i) (along b points z all.1 i))
      ∙ differ-both (is_counted (before a) (before b) q) (is_inside (placed before (sides_along b points z)) q) (change a) (change b) (change z)
      ∙ ap (λ (c : Bool). differ c (differ (change a) (change z))) (sym (inside-cons (before a, before b) (placed before (sides_along b points z)) q))

  -- a ring has the position inside where it had
  pub inside-before : (ring : Ring) → AllByRecursion IsAlike (sides_of ring) → is_inside (placed position (sides_of ring)) q ≡ is_inside (placed before (sides_of ring)) q
  inside-before [] all = refl
  inside-before (a ∷ points) all =
      along a points a all
      ∙ ap (differ (is_inside (placed before (sides_of (a ∷ points))) q)) (differ-itself (change a))
      ∙ differ-none (is_inside (placed before (sides_of (a ∷ points))) q)

-- ---- Positions far from the point

-- the point goes past with all or with none where all its sides change alike
alike-from : (at from q : Position) (rays : List Ray) (anew : Bool) → AllByRecursion (λ r. is_counted_anew at from q r.position ≡ anew) rays → goes_past_alike at from rays q ≡ true
alike-from at from q rays true all = rw (each rays all) refl
  where
    each : (rays : List Ray) → AllByRecursion (λ r. is_counted_anew at from q r.position ≡ true) rays → list_all (λ r. is_counted_anew at from q r.position) rays ≡ true
    each [] all = refl
    each (r ∷ rays) all = and_from (is_counted_anew at from q r.position) (list_all (λ r. is_counted_anew at from q r.position) rays) all.0 (each rays all.1)
alike-from at from q rays false all = or_right (list_all (λ r. is_counted_anew at from q r.position) rays) _ (each rays all)
  where
    each : (rays : List Ray) → AllByRecursion (λ r. is_counted_anew at from q r.position ≡ false) rays → list_all (λ r. not (is_counted_anew at from q r.position)) rays ≡ true
    each [] all = refl
    each (r ∷ rays) all =
        and_from (not (is_counted_anew at from q r.position)) (list_all (λ r. not (is_counted_anew at from q r.position)) rays)
        (ap not all.0) (each rays all.1)

-- where a side is counted, the position is no higher than one end, higher than none but one, and not right of both
not_counted : (l h a b q : Position) → (above : (q.y <ℤ l.y) ⊎ (h.y <ℤ q.y) ⊎ (h.x <ℤ q.x)) → l.y ≤ℤ a.y → l.y ≤ℤ b.y → a.y ≤ℤ h.y → b.y ≤ℤ h.y → a.x ≤ℤ h.x → b.x ≤ℤ h.x → is_counted_upwards a b q ≡ false
not_counted l h a b q away la lb ha hb xa xb = by (is_counted_upwards a b q) refl
  where
    by : (s : Bool) → is_counted_upwards a b q ≡ s → is_counted_upwards a b q ≡ false
    by false is = is
    by true is =
        let rises = rises_past a b q is in
        let low = rises.0 in let high = rises.1 in
        absurd (elim away [
          | inl below ↦ omega (arith, ints)
          | inr (inl above) ↦ omega (arith, ints)
          | inr (inr right) ↦ true≢false (sym rises.2 ∙ right_of a b q low high (omega (arith, ints)) (omega (arith, ints)))
        ])

module _ (reach : Reach) (at from : Position) (at_in : IsInReach reach at) (from_in : IsInReach reach from) where
  -- where the position isn't left of the box nor in it, no side is counted before or after
  past-none : (q x : Position) → IsInReach reach x → (q.y <ℤ reach.low.y) ⊎ (reach.high.y <ℤ q.y) ⊎ (reach.high.x <ℤ q.x) → is_counted_anew at from q x ≡ false
  past-none q x x_in away = λ i. differ (none at at_in i) (none from from_in i)
    where
      none : (p : Position) → IsInReach reach p → is_counted x p q ≡ false
      none p p_in = rw (not_counted reach.low reach.high x p q away x_in.bottom p_in.bottom x_in.top p_in.top x_in.right p_in.right, not_counted reach.low reach.high p x q away p_in.bottom x_in.bottom p_in.top x_in.top p_in.right x_in.right) refl

  -- where it is left of it, all change as the heights of the point do
  past-all : (q x : Position) → IsInReach reach x → q.x <ℤ reach.low.x → is_counted_anew at from q x ≡ differ (low q at) (low q from)
  past-all q x x_in left =
      let counted = λ (p : Position) (p_in : IsInReach reach p). counted-left x p q (omega (arith, ints)) (omega (arith, ints)) in
      (λ i. differ (counted at at_in i) (counted from from_in i)) ∙ differ-through (low q x) (low q at) (low q from)

  -- a position in the box overlaps it
  overlaps-within : (l h z : ℤ) → l ≤ℤ z → z ≤ℤ h → overlaps l h z z ≡ true
  overlaps-within l h z lz zh = grind (arith, ints)

  -- a position that doesn't lies left of it, or below, above or right of it
  pub outside : (q : Position) → boxes_overlap reach.low reach.high q q ≡ false
      → (q.x <ℤ reach.low.x) ⊎ ((q.y <ℤ reach.low.y) ⊎ (reach.high.y <ℤ q.y) ⊎ (reach.high.x <ℤ q.x))
  outside q apart =
      by_lt_z q.x reach.low.x inl (λ left.
      by_lt_z q.y reach.low.y (λ away. inr (inl away)) (λ bottom.
      by_lt_z reach.high.y q.y (λ away. inr (inr (inl away))) (λ top.
      by_lt_z reach.high.x q.x (λ away. inr (inr (inr away))) (λ right.
      absurd (true≢false (sym (and_from (overlaps reach.low.x reach.high.x q.x q.x) (overlaps reach.low.y reach.high.y q.y q.y)
      (overlaps-within reach.low.x reach.high.x q.x left right) (overlaps-within reach.low.y reach.high.y q.y bottom top)) ∙ apart))))))

  -- so past it the point goes with all or with none
  pub far-alike : (rays : List Ray) → AllByRecursion (λ r. IsInReach reach r.position) rays → (q : Position) → boxes_overlap reach.low reach.high q q ≡ false → goes_past_alike at from rays q ≡ true
  far-alike rays all q apart = elim (outside q apart) [
    | inl left ↦
        alike-from at from q rays (differ (low q at) (low q from))
        (All-follows (λ r. IsInReach reach r.position) (λ r. is_counted_anew at from q r.position ≡ differ (low q at) (low q from)) (λ r h. past-all q r.position h left) rays all)
    | inr away ↦
        alike-from at from q rays false
        (All-follows (λ r. IsInReach reach r.position) (λ r. is_counted_anew at from q r.position ≡ false) (λ r h. past-none q r.position h away) rays all)
  ]
