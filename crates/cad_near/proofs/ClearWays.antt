-- Where no side comes near a way, a ring has both of its ends inside, or neither.
-- A side that is counted at one end of the way and not at the other has just one end right of the
-- way, at a height between. In a closed list each such end is one of two sides, so the parity
-- stays.
use Rattle.std.proofs.Common.{◌≡◌, ℕ, ℤ, ◌<ℤ◌, refl, sym, ◌∙◌, List, [], ◌∷◌, Bool, true, false, not, true≢false, arith}
use Rattle.std.proofs.lemmas.Int.{ints}
use Rattle.std.specs.Prelude.{◌&&◌, int_le, int_lt}
use Rattle.std.specs.List.{AllByRecursion}
use Rattle.geo_exact.specs.Orientation.{is_left}
use Rattle.geo_exact.specs.Position.{Position}
use Rattle.geo_exact.specs.Inside.{is_counted, is_counted_upwards, is_inside}
use Rattle.geo_exact.specs.SignTest.{boxes_overlap, overlaps, are_below}
use Rattle.cad_rings.specs.Cycle.{Ring, Side, sides_along, sides_of, placed}
use Rattle.cad_valid.proofs.CallerLemmas.{differ, differ-none, low, counted-left, inside-cons, rises_past, right_of}
use Rattle.cad_near.proofs.MovedSides.{differ-itself}

-- two changes, and one after the other
differ-across : (a b c d : Bool) → differ (differ a b) (differ c d) ≡ differ (differ a c) (differ b d)
differ-across a b c d = grind arith

same-from : (a b : Bool) → differ a b ≡ false → a ≡ b
same-from true true is = refl
same-from false false is = refl
same-from true false is = absurd (true≢false is)
same-from false true is = absurd (true≢false is)

-- one stretch lies below the other
below-parts : (a b c d : ℤ) → are_below a b c d ≡ true → (a <ℤ c) × (a <ℤ d) × (b <ℤ c) × (b <ℤ d)
below-parts a b c d is = grind (arith, ints, is)

-- stretches that have nothing in common lie one below the other
apart-either : (a b c d : ℤ) {G : Type 0} → overlaps a b c d ≡ false → (are_below a b c d ≡ true → G) → (are_below c d a b ≡ true → G) → G
apart-either a b c d {G = G} is first second = by (are_below a b c d) refl (are_below c d a b) refl is
  where
    by : (s : Bool) → are_below a b c d ≡ s → (t : Bool) → are_below c d a b ≡ t → (not s && not t) ≡ false → G
    by true e t f none = first e
    by false e true f none = second f
    by false e false f none = absurd (true≢false none)

-- a position overlaps itself
pub box-itself : (z : Position) → boxes_overlap z z z z ≡ true
box-itself z = (λ i. itself z.x i && itself z.y i)
  where
    itself : (x : ℤ) → overlaps x x x x ≡ true
    itself x = grind (arith, ints)

-- right of both ends of a side nothing is counted
beyond : (a b q : Position) → a.x <ℤ q.x → b.x <ℤ q.x → is_counted_upwards a b q ≡ false
beyond a b q first second = by (is_counted_upwards a b q) refl
  where
    by : (s : Bool) → is_counted_upwards a b q ≡ s → is_counted_upwards a b q ≡ false
    by false is = is
    by true is =
        let rises = rises_past a b q is in
        absurd (true≢false (sym rises.2 ∙ right_of a b q rises.0 rises.1 first second))

module _ (from to : Position) where
  -- right of the way, no higher than one end of it and higher than the other
  abbrev beside : Position → Bool
  beside x = (int_lt from.x x.x && int_lt to.x x.x) && differ (low from x) (low to x)

  abbrev Changes : Position → Position → Type 0
  Changes a b = differ (is_counted a b from) (is_counted a b to) ≡ differ (beside a) (beside b)

  module _ (a b : Position) where
    -- a side right of the way
    side-right : are_below from.x to.x a.x b.x ≡ true → Changes a b
    side-right is =
        let parts = below-parts from.x to.x a.x b.x is in
        (λ i. differ (counted-left a b from parts.0 parts.1 i) (counted-left a b to parts.2 parts.3 i))
        ∙ differ-across (low from a) (low from b) (low to a) (low to b)
        ∙ (λ i. differ (sym (right a parts.0 parts.2) i) (sym (right b parts.1 parts.3) i))
      where
        right : (x : Position) → from.x <ℤ x.x → to.x <ℤ x.x → beside x ≡ differ (low from x) (low to x)
        right x one other = rw (less from.x x.x one, less to.x x.x other) refl
          where
            less : (y z : ℤ) → y <ℤ z → int_lt y z ≡ true
            less y z h = grind (arith, ints, h)

    none : is_counted_upwards a b from ≡ false → is_counted_upwards b a from ≡ false → is_counted_upwards a b to ≡ false → is_counted_upwards b a to ≡ false
        → beside a ≡ false → beside b ≡ false → Changes a b
    none one two three four five six = rw (one, two, three, four, five, six) refl

    -- one left of it
    side-left : are_below a.x b.x from.x to.x ≡ true → Changes a b
    side-left is =
        let parts = below-parts a.x b.x from.x to.x is in
        none (beyond a b from parts.0 parts.2) (beyond b a from parts.2 parts.0) (beyond a b to parts.1 parts.3) (beyond b a to parts.3 parts.1)
        (left a parts.0) (left b parts.2)
      where
        left : (x : Position) → x.x <ℤ from.x → beside x ≡ false
        left x less = rw (not_less from.x x.x less) refl
          where
            not_less : (y z : ℤ) → z <ℤ y → int_lt y z ≡ false
            not_less y z h = grind (arith, ints, h)

    same-heights : (s : Bool) → (x : Position) → low from x ≡ s → low to x ≡ s → beside x ≡ false
    same-heights s x one other = by (int_lt from.x x.x && int_lt to.x x.x)
      where
        by : (t : Bool) → (t && differ (low from x) (low to x)) ≡ false
        by true = (λ i. differ (one i) (other i)) ∙ differ-itself s
        by false = refl

    -- one above it
    side-above : are_below from.y to.y a.y b.y ≡ true → Changes a b
    side-above is =
        let parts = below-parts from.y to.y a.y b.y is in
        let fa = above from.y a.y parts.0 in
        let fb = above from.y b.y parts.1 in
        let ta = above to.y a.y parts.2 in
        let tb = above to.y b.y parts.3 in
        none (rw fa refl) (rw fb refl) (rw ta refl) (rw tb refl) (same-heights false a fa ta) (same-heights false b fb tb)
      where
        above : (y z : ℤ) → y <ℤ z → int_le z y ≡ false
        above y z h = grind (arith, ints, h)

    -- one below it
    side-below : are_below a.y b.y from.y to.y ≡ true → Changes a b
    side-below is =
        let parts = below-parts a.y b.y from.y to.y is in
        let fa = below a.y from.y parts.0 in
        let ta = below a.y to.y parts.1 in
        let fb = below b.y from.y parts.2 in
        let tb = below b.y to.y parts.3 in
        none (ends-low a b from fb) (ends-low b a from fa) (ends-low a b to tb) (ends-low b a to ta) (same-heights true a fa ta) (same-heights true b fb tb)
      where
        below : (y z : ℤ) → y <ℤ z → int_le y z ≡ true
        below y z h = grind (arith, ints, h)

        ends-low : (x z q : Position) → low q z ≡ true → is_counted_upwards x z q ≡ false
        ends-low x z q is = by (int_le x.y q.y)
          where
            by : (s : Bool) → (s && not (int_le z.y q.y) && is_left x z q) ≡ false
            by true = rw is refl
            by false = refl

    pub counted-clear : boxes_overlap from to a b ≡ false → Changes a b
    counted-clear apart = by (overlaps from.x to.x a.x b.x) refl apart
      where
        by : (s : Bool) → overlaps from.x to.x a.x b.x ≡ s → (s && overlaps from.y to.y a.y b.y) ≡ false → Changes a b
        by true is away = apart-either from.y to.y a.y b.y away side-above side-below
        by false is away = apart-either from.x to.x a.x b.x is side-right side-left

  -- ---- All sides of a ring

  module _ (position : ℕ → Position) where
    abbrev pub IsClear : Side → Type 0
    IsClear s = boxes_overlap from to (position s.0) (position s.1) ≡ false

    along : (a : ℕ) (points : List ℕ) (z : ℕ) → AllByRecursion IsClear (sides_along a points z)
        → differ (is_inside (placed position (sides_along a points z)) from) (is_inside (placed position (sides_along a points z)) to) ≡ differ (beside (position a)) (beside (position z))
    along a [] z all =
        (λ i. differ (last from i) (last to i)) ∙ counted-clear (position a) (position z) all.0
      where
        last : (q : Position) → is_inside (placed position (sides_along a [] z)) q ≡ is_counted (position a) (position z) q
        last q = inside-cons (position a, position z) [] q ∙ differ-none (is_counted (position a) (position z) q)
    along a (b ∷ points) z all =
        (λ i. differ (first from i) (first to i))
        ∙ differ-across (is_counted (position a) (position b) from) (rest from) (is_counted (position a) (position b) to) (rest to)
        ∙ (λ i. differ (counted-clear (position a) (position b) all.0 i) (along b points z all.1 i))
        ∙ through (beside (position a)) (beside (position b)) (beside (position z))
      where
        rest : Position → Bool
        rest q = is_inside (placed position (sides_along b points z)) q

        first : (q : Position) → is_inside (placed position (sides_along a (b ∷ points) z)) q ≡ differ (is_counted (position a) (position b) q) (rest q)
        first q = inside-cons (position a, position b) (placed position (sides_along b points z)) q

        through : (x y z : Bool) → differ (differ x y) (differ y z) ≡ differ x z
        through x y z = grind arith

    pub inside-clear : (ring : Ring) → AllByRecursion IsClear (sides_of ring) → is_inside (placed position (sides_of ring)) from ≡ is_inside (placed position (sides_of ring)) to
    inside-clear [] all = refl
    inside-clear (a ∷ points) all = same-from _ _ (along a points a all ∙ differ-itself (beside (position a)))
