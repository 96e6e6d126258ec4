-- Directions in the order in which a turn meets them: it is an order, and of three in a row each lies in the sector between the other two.
use Rattle.std.proofs.Common.{◌≡◌, refl, sym, ap, ◌∙◌, [], ◌∷◌, ℤ, pos, ◌+ℤ◌, ◌-ℤ◌, ◌*ℤ◌, neg_ℤ, ◌<ℤ◌, ◌≤ℤ◌, arith, Bool, true, false, true≢false, ◌⊎◌, inl, inr}
use Rattle.std.specs.Prelude.{not, ◌&&◌, ◌||◌, int_lt, int_le, if◌then◌else◌}
use Rattle.std.proofs.lemmas.Bool.{not-true}
use Rattle.std.proofs.lemmas.Int.{ints, by_lt_z}
use Rattle.geo_exact.specs.Position.{Position}
use Rattle.geo_exact.specs.Orientation.{orientation, dot, IsSameDirection}
use Rattle.geo_exact.specs.Sector.{in_sector, AreThreeDirections}
use Rattle.geo_exact.specs.Segment.{IsOnSegment}
use Rattle.geo_exact.specs.Turning.{is_ahead, is_met_first}
use Rattle.geo_exact.proofs.Polynomial.{by_parts}
use Rattle.geo_exact.proofs.Polynomial.Polynomial.{var, num, ◌⊞◌, ◌⊟◌, ◌⊠◌}
use Rattle.geo_exact.proofs.Signs.{positive-positive, zero-times, square}
use Rattle.geo_exact.proofs.Borders.{cross_self}
use Rattle.geo_exact.proofs.Directions.Sign.{above, zero_, below}
use Rattle.geo_exact.proofs.Directions.{by_signs, Sign, sign, cross, inner, inner_back, cross_back, one_is_first, above_if, zero_if, away}

-- ---- Vectors in one half of the plane

-- the vector lies above the line from west to east, or on its eastern half
data Ahead (x y : ℤ) : Type 0 where
  north : pos 0 <ℤ y → Ahead x y
  east : y ≡ pos 0 → pos 0 <ℤ x → Ahead x y

not_below : (x y : ℤ) → Ahead x y → pos 0 ≤ℤ y
not_below x y (north h) = omega (arith, h, ints)
not_below x y (east h k) = omega (arith, h, ints)

-- what b has above the line, between a and c
between : (ax ay bx by cx cy : ℤ) → cross ax ay cx cy *ℤ by ≡ cross ax ay bx by *ℤ cy +ℤ cross bx by cx cy *ℤ ay
between ax ay bx by cx cy =
    let AX = var 0 in let AY = var 1 in let BX = var 2 in let BY = var 3 in let CX = var 4 in let CY = var 5 in
    by_parts (ax ∷ ay ∷ bx ∷ by ∷ cx ∷ cy ∷ []) ((AX ⊠ CY ⊟ AY ⊠ CX) ⊠ BY) ((AX ⊠ BY ⊟ AY ⊠ BX) ⊠ CY ⊞ (BX ⊠ CY ⊟ BY ⊠ CX) ⊠ AY) (omega arith)

times-zero : (x y : ℤ) → y ≡ pos 0 → x *ℤ y ≡ pos 0
times-zero x y h = ap (λ (z : ℤ). x *ℤ z) h ∙ omega (arith, ints)

not_negative : (x y : ℤ) → pos 0 ≤ℤ x → pos 0 ≤ℤ y → pos 0 ≤ℤ (x *ℤ y)
not_negative x y h k = go (sign x) (sign y)
  where
    go : Sign x → Sign y → pos 0 ≤ℤ (x *ℤ y)
    go (above p u) (above q v) = let r = positive-positive x y p q in omega (arith, r, ints)
    go (above p u) (zero_ q v) = let r = times-zero x y q in omega (arith, r, ints)
    go (above p u) (below q v) = absurd (omega (arith, ints))
    go (zero_ p u) s = let r = zero-times x y p in omega (arith, r, ints)
    go (below p u) s = absurd (omega (arith, ints))

-- the orientation of a vector on the line and another
flat_first : (ax ay bx by : ℤ) → ay ≡ pos 0 → cross ax ay bx by ≡ ax *ℤ by
flat_first ax ay bx by h = let k = zero-times ay bx h in omega (arith, k, ints)

flat_second : (ax ay bx by : ℤ) → by ≡ pos 0 → cross ax ay bx by ≡ neg_ℤ (ay *ℤ bx)
flat_second ax ay bx by h = let k = times-zero ax by h in omega (arith, k, ints)

-- of vectors in the half, from a on to b and further to c is from a to c
onward : (ax ay bx by cx cy : ℤ) → Ahead ax ay → Ahead bx by → Ahead cx cy → pos 0 ≤ℤ cross ax ay bx by → pos 0 <ℤ cross bx by cx cy → pos 0 <ℤ cross ax ay cx cy
onward ax ay bx by cx cy a b c ab bc = by_halves a b c (between ax ay bx by cx cy)
  where
    by_halves : Ahead ax ay → Ahead bx by → Ahead cx cy → cross ax ay cx cy *ℤ by ≡ cross ax ay bx by *ℤ cy +ℤ cross bx by cx cy *ℤ ay → pos 0 <ℤ cross ax ay cx cy
    by_halves (north l) (north h) (north k) same =
        let p = not_negative (cross ax ay bx by) cy ab (omega (arith, k, ints)) in
        let q = positive-positive (cross bx by cx cy) ay bc l in
        above_if (cross ax ay cx cy) by h (omega (arith, same, p, q, ints))
    by_halves (east l m) (north h) (north k) same =
        let r = positive-positive ax cy m k in let s = flat_first ax ay cx cy l in omega (arith, s, r, ints)
    by_halves a (north h) (east k m) same =
        let r = positive-positive by cx h m in let s = flat_second bx by cx cy k in absurd (omega (arith, s, r, bc, ints))
    by_halves (north l) (east h k) c same =
        let r = positive-positive ay bx l k in let s = flat_second ax ay bx by h in absurd (omega (arith, s, r, ab, ints))
    by_halves (east l m) (east h k) c same =
        let p = flat_first bx by cx cy h in
        let q = above_if cy bx k (swapped bx cy (omega (arith, p, bc, ints))) in
        let r = positive-positive ax cy m q in let s = flat_first ax ay cx cy l in omega (arith, s, r, ints)
      where
        swapped : (x y : ℤ) → pos 0 <ℤ (x *ℤ y) → pos 0 <ℤ (y *ℤ x)
        swapped x y h = omega (arith, h, by_parts (x ∷ y ∷ []) (var 0 ⊠ var 1) (var 1 ⊠ var 0) (omega arith), ints)

-- ---- Turns

-- of three numbers, the orientations of a and b, b and c, c and a, two at least are above zero: so b comes between a and c, c between b and a, and a between c and b
pub data Turns (ab bc ca : ℤ) : Type 0 where
  first_two : pos 0 <ℤ ab → pos 0 <ℤ bc → Turns ab bc ca
  last_two : pos 0 <ℤ bc → pos 0 <ℤ ca → Turns ab bc ca
  outer_two : pos 0 <ℤ ca → pos 0 <ℤ ab → Turns ab bc ca

onward_turns : (ab bc ca : ℤ) → Turns ab bc ca → Turns bc ca ab
onward_turns ab bc ca (first_two h k) = outer_two h k
onward_turns ab bc ca (last_two h k) = first_two h k
onward_turns ab bc ca (outer_two h k) = last_two h k

-- the table at directions that turn so, with e and g the inner products that it reads
sector-turns : (ab bc ca e g : ℤ) → Turns ab bc ca → Sign ab → Sign bc → Sign ca → by_signs (neg_ℤ ca) ab bc (neg_ℤ bc) (neg_ℤ ab) e g ≡ true
sector-turns ab bc ca e g (first_two h k) (above p u) (above q v) (above r w) = simp (u.more, u.less, u.neg_less, v.more, v.neg_less, w.neg_more, w.neg_less)
sector-turns ab bc ca e g (first_two h k) (above p u) (above q v) (below r w) = simp (u.more, u.less, u.neg_less, v.more, v.neg_less, w.neg_more, w.neg_less)
sector-turns ab bc ca e g (first_two h k) (above p u) (above q v) (zero_ r w) = simp (u.more, u.less, u.neg_less, v.more, v.neg_less, w.neg_more, w.neg_less) (either (int_lt e (pos 0)))
  where
    either : (s : Bool) → (if s then true else true) ≡ true
    either true = refl
    either false = refl
sector-turns ab bc ca e g (first_two h k) (below p u) t s = absurd (omega (arith, h, p, ints))
sector-turns ab bc ca e g (first_two h k) (zero_ p u) t s = absurd (omega (arith, h, p, ints))
sector-turns ab bc ca e g (first_two h k) (above p u) (below q v) s = absurd (omega (arith, k, q, ints))
sector-turns ab bc ca e g (first_two h k) (above p u) (zero_ q v) s = absurd (omega (arith, k, q, ints))
sector-turns ab bc ca e g (last_two h k) t (above q v) (above r w) = by t
  where
    by : Sign ab → by_signs (neg_ℤ ca) ab bc (neg_ℤ bc) (neg_ℤ ab) e g ≡ true
    by (above p u) = simp (u.more, u.less, u.neg_less, v.more, v.neg_less, w.neg_more, w.neg_less)
    by (below p u) = simp (u.more, u.less, u.neg_less, v.more, v.neg_less, w.neg_more, w.neg_less)
    by (zero_ p u) = simp (u.more, u.less, u.neg_less, v.more, v.neg_less, w.neg_more, w.neg_less)
sector-turns ab bc ca e g (last_two h k) t (below q v) s = absurd (omega (arith, h, q, ints))
sector-turns ab bc ca e g (last_two h k) t (zero_ q v) s = absurd (omega (arith, h, q, ints))
sector-turns ab bc ca e g (last_two h k) t (above q v) (below r w) = absurd (omega (arith, k, r, ints))
sector-turns ab bc ca e g (last_two h k) t (above q v) (zero_ r w) = absurd (omega (arith, k, r, ints))
sector-turns ab bc ca e g (outer_two h k) (above p u) t (above r w) = by t
  where
    by : Sign bc → by_signs (neg_ℤ ca) ab bc (neg_ℤ bc) (neg_ℤ ab) e g ≡ true
    by (above q v) = simp (u.more, u.less, u.neg_less, v.more, v.neg_less, w.neg_more, w.neg_less)
    by (below q v) = simp (u.more, u.less, u.neg_less, v.more, v.neg_less, w.neg_more, w.neg_less)
    by (zero_ q v) = simp (u.more, u.less, u.neg_less, v.more, v.neg_less, w.neg_more, w.neg_less)
sector-turns ab bc ca e g (outer_two h k) (below p u) t s = absurd (omega (arith, k, p, ints))
sector-turns ab bc ca e g (outer_two h k) (zero_ p u) t s = absurd (omega (arith, k, p, ints))
sector-turns ab bc ca e g (outer_two h k) (above p u) t (below r w) = absurd (omega (arith, h, r, ints))
sector-turns ab bc ca e g (outer_two h k) (above p u) t (zero_ r w) = absurd (omega (arith, h, r, ints))

-- ---- Positions round v

-- a is in the first half of a turn about v, or in the second
data Half (v a : Position) : Type 0 where
  first : is_ahead v a ≡ true → Ahead (a.x -ℤ v.x) (a.y -ℤ v.y) → Half v a
  second : is_ahead v a ≡ false → Ahead (v.x -ℤ a.x) (v.y -ℤ a.y) → Half v a

lt_true : (x y : ℤ) → x <ℤ y → int_lt x y ≡ true
lt_true x y h = grind (arith, ints)

lt_false : (x y : ℤ) → y ≤ℤ x → int_lt x y ≡ false
lt_false x y h = grind (arith, ints)

le_true : (x y : ℤ) → x ≤ℤ y → int_le x y ≡ true
le_true x y h = grind (arith, ints)

le_false : (x y : ℤ) → y <ℤ x → int_le x y ≡ false
le_false x y h = grind (arith, ints)

-- no vector and its opposite are both in the half
no_two : (v a : Position) → Ahead (a.x -ℤ v.x) (a.y -ℤ v.y) → Ahead (v.x -ℤ a.x) (v.y -ℤ a.y) → ⊥
no_two v a (north h) (north k) = omega (arith, h, k, ints)
no_two v a (north h) (east k l) = omega (arith, h, k, ints)
no_two v a (east k l) (north h) = omega (arith, h, k, ints)
no_two v a (east k l) (east m n) = omega (arith, l, n, ints)

half : (v a : Position) → ¬ (a ≡ v) → Half v a
half v a away = by (sign (a.y -ℤ v.y)) (sign (a.x -ℤ v.x))
  where
    by : Sign (a.y -ℤ v.y) → Sign (a.x -ℤ v.x) → Half v a
    by (above p u) s = first (simp (lt_true v.y a.y (omega (arith, p, ints)))) (north p)
    by (zero_ p u) (above q w) = first (simp (lt_false v.y a.y (omega (arith, p, ints)), le_true v.y a.y (omega (arith, p, ints)), lt_true v.x a.x (omega (arith, q, ints)))) (east p q)
    by (zero_ p u) (zero_ q w) =
        let ex : a.x ≡ v.x = omega (arith, q, ints) in let ey : a.y ≡ v.y = omega (arith, p, ints) in
        absurd (away (λ i. record { x = ex i; y = ey i }))
    by (zero_ p u) (below q w) = second (simp (lt_false v.y a.y (omega (arith, p, ints)), le_true v.y a.y (omega (arith, p, ints)), lt_false v.x a.x (omega (arith, q, ints)))) (east (omega (arith, p, ints)) (omega (arith, q, ints)))
    by (below p u) s = second (simp (lt_false v.y a.y (omega (arith, p, ints)), le_false v.y a.y (omega (arith, p, ints)))) (north (omega (arith, p, ints)))

above_zero : (z : ℤ) → int_lt (pos 0) z ≡ true → pos 0 <ℤ z
above_zero z h = grind (arith, ints)

module _ (v a b : Position) where
  -- both vectors turned by half a turn
  half_turned : cross (v.x -ℤ a.x) (v.y -ℤ a.y) (v.x -ℤ b.x) (v.y -ℤ b.y) ≡ orientation v a b
  half_turned =
      let VX = var 0 in let VY = var 1 in let AX = var 2 in let AY = var 3 in let BX = var 4 in let BY = var 5 in
      by_parts (v.x ∷ v.y ∷ a.x ∷ a.y ∷ b.x ∷ b.y ∷ []) ((VX ⊟ AX) ⊠ (VY ⊟ BY) ⊟ (VY ⊟ AY) ⊠ (VX ⊟ BX)) ((AX ⊟ VX) ⊠ (BY ⊟ VY) ⊟ (AY ⊟ VY) ⊠ (BX ⊟ VX)) (omega arith)

  -- the first of them turned so
  first_turned : cross (v.x -ℤ a.x) (v.y -ℤ a.y) (b.x -ℤ v.x) (b.y -ℤ v.y) ≡ orientation v b a
  first_turned =
      let VX = var 0 in let VY = var 1 in let AX = var 2 in let AY = var 3 in let BX = var 4 in let BY = var 5 in
      by_parts (v.x ∷ v.y ∷ a.x ∷ a.y ∷ b.x ∷ b.y ∷ []) ((VX ⊟ AX) ⊠ (BY ⊟ VY) ⊟ (VY ⊟ AY) ⊠ (BX ⊟ VX)) ((BX ⊟ VX) ⊠ (AY ⊟ VY) ⊟ (BY ⊟ VY) ⊠ (AX ⊟ VX)) (omega arith)

  second_turned : cross (a.x -ℤ v.x) (a.y -ℤ v.y) (v.x -ℤ b.x) (v.y -ℤ b.y) ≡ orientation v b a
  second_turned =
      let VX = var 0 in let VY = var 1 in let AX = var 2 in let AY = var 3 in let BX = var 4 in let BY = var 5 in
      by_parts (v.x ∷ v.y ∷ a.x ∷ a.y ∷ b.x ∷ b.y ∷ []) ((AX ⊟ VX) ⊠ (VY ⊟ BY) ⊟ (AY ⊟ VY) ⊠ (VX ⊟ BX)) ((BX ⊟ VX) ⊠ (AY ⊟ VY) ⊟ (BY ⊟ VY) ⊠ (AX ⊟ VX)) (omega arith)

  second_opposite : inner (a.x -ℤ v.x) (a.y -ℤ v.y) (v.x -ℤ b.x) (v.y -ℤ b.y) +ℤ dot v a b ≡ pos 0
  second_opposite =
      let VX = var 0 in let VY = var 1 in let AX = var 2 in let AY = var 3 in let BX = var 4 in let BY = var 5 in
      by_parts (v.x ∷ v.y ∷ a.x ∷ a.y ∷ b.x ∷ b.y ∷ []) ((AX ⊟ VX) ⊠ (VX ⊟ BX) ⊞ (AY ⊟ VY) ⊠ (VY ⊟ BY) ⊞ ((AX ⊟ VX) ⊠ (BX ⊟ VX) ⊞ (AY ⊟ VY) ⊠ (BY ⊟ VY))) (num (pos 0)) (omega arith)

  -- what one is met before the other tells of their halves
  data Meeting : Type 0 where
    in_first : Ahead (a.x -ℤ v.x) (a.y -ℤ v.y) → Ahead (b.x -ℤ v.x) (b.y -ℤ v.y) → pos 0 <ℤ orientation v a b → Meeting
    across : Ahead (a.x -ℤ v.x) (a.y -ℤ v.y) → Ahead (v.x -ℤ b.x) (v.y -ℤ b.y) → Meeting
    in_second : Ahead (v.x -ℤ a.x) (v.y -ℤ a.y) → Ahead (v.x -ℤ b.x) (v.y -ℤ b.y) → pos 0 <ℤ orientation v a b → Meeting

  meeting : Half v a → Half v b → is_met_first v a b ≡ true → Meeting
  meeting (first p x) (first q y) h = in_first x y (above_zero (orientation v a b) (simp (p, q) at h))
  meeting (first p x) (second q y) h = across x y
  meeting (second p x) (first q y) h = absurd (true≢false (sym h ∙ simp (p, q)))
  meeting (second p x) (second q y) h = in_second x y (above_zero (orientation v a b) (simp (p, q) at h))

  met : Half v a → Half v b → Meeting → is_met_first v a b ≡ true
  met (first p x) (first q y) (in_first z w h) = simp (p, q, lt_true (pos 0) (orientation v a b) h)
  met (first p x) (second q y) h = simp (p, q)
  met (second p x) (second q y) (in_second z w h) = simp (p, q, lt_true (pos 0) (orientation v a b) h)
  met (first p x) (first q y) (across z w) = absurd (no_two v b y w)
  met (first p x) (first q y) (in_second z w h) = absurd (no_two v a x z)
  met (second p x) (first q y) (in_first z w h) = absurd (no_two v a z x)
  met (second p x) (first q y) (across z w) = absurd (no_two v a z x)
  met (second p x) (first q y) (in_second z w h) = absurd (no_two v b y w)
  met (second p x) (second q y) (in_first z w h) = absurd (no_two v a z x)
  met (second p x) (second q y) (across z w) = absurd (no_two v a z x)

-- positions in directions that turn so
abbrev pub TurnsLeft : Position → Position → Position → Position → Type 0
TurnsLeft v a b c = Turns (orientation v a b) (orientation v b c) (orientation v c a)

-- of directions that are met one after another each is met before all later ones, and they turn so
module _ (v a b c : Position) (a_away : ¬ (a ≡ v)) (b_away : ¬ (b ≡ v)) (c_away : ¬ (c ≡ v)) where
  back_ac : orientation v c a ≡ neg_ℤ (orientation v a c)
  back_ac = cross_back (a.x -ℤ v.x) (a.y -ℤ v.y) (c.x -ℤ v.x) (c.y -ℤ v.y)

  onward-later : Meeting v a b → Meeting v b c → Meeting v a c
  onward-later (in_first x y h) (in_first y' z k) = in_first x z (onward _ _ _ _ _ _ x y z (omega (arith, h, ints)) k)
  onward-later (in_first x y h) (across y' z) = across x z
  onward-later (in_first x y h) (in_second y' z k) = absurd (no_two v b y y')
  onward-later (across x y) (in_first y' z k) = absurd (no_two v b y' y)
  onward-later (across x y) (across y' z) = absurd (no_two v b y' y)
  onward-later (across x y) (in_second y' z k) = across x z
  onward-later (in_second x y h) (in_first y' z k) = absurd (no_two v b y' y)
  onward-later (in_second x y h) (across y' z) = absurd (no_two v b y' y)
  onward-later (in_second x y h) (in_second y' z k) =
      let ab : pos 0 <ℤ cross (v.x -ℤ a.x) (v.y -ℤ a.y) (v.x -ℤ b.x) (v.y -ℤ b.y) = rw (half_turned v a b) h in
      let bc : pos 0 <ℤ cross (v.x -ℤ b.x) (v.y -ℤ b.y) (v.x -ℤ c.x) (v.y -ℤ c.y) = rw (half_turned v b c) k in
      let ac : pos 0 <ℤ cross (v.x -ℤ a.x) (v.y -ℤ a.y) (v.x -ℤ c.x) (v.y -ℤ c.y) = onward _ _ _ _ _ _ x y z (omega (arith, ab, ints)) bc in
      in_second x z (rw (half_turned v a c) at ac)

  pub met-later : is_met_first v a b ≡ true → is_met_first v b c ≡ true → is_met_first v a c ≡ true
  met-later h k =
      let i = half v a a_away in let j = half v b b_away in let l = half v c c_away in
      met v a c i l (onward-later (meeting v a b i j h) (meeting v b c j l k))

  turning : Meeting v a b → Meeting v b c → TurnsLeft v a b c
  turning (in_first x y h) (in_first y' z k) = first_two h k
  turning (in_first x y h) (across y' z) = by_lt_z (orientation v a c) (pos 0)
      (λ lt. outer_two (let e = back_ac in omega (arith, e, lt, ints)) h)
      (λ ge.
      let ca : pos 0 ≤ℤ cross (v.x -ℤ c.x) (v.y -ℤ c.y) (a.x -ℤ v.x) (a.y -ℤ v.y) = rw (first_turned v c a) ge in
      let cb : pos 0 <ℤ cross (v.x -ℤ c.x) (v.y -ℤ c.y) (b.x -ℤ v.x) (b.y -ℤ v.y) = onward _ _ _ _ _ _ z x y ca h in
      first_two h (rw (first_turned v c b) at cb))
  turning (in_first x y h) (in_second y' z k) = absurd (no_two v b y y')
  turning (across x y) (in_first y' z k) = absurd (no_two v b y' y)
  turning (across x y) (across y' z) = absurd (no_two v b y' y)
  turning (across x y) (in_second y' z k) = by_lt_z (pos 0) (orientation v a b)
      (λ gt. first_two gt k)
      (λ le.
      let e : orientation v b a ≡ neg_ℤ (orientation v a b) = cross_back (a.x -ℤ v.x) (a.y -ℤ v.y) (b.x -ℤ v.x) (b.y -ℤ v.y) in
      let ab : pos 0 ≤ℤ cross (a.x -ℤ v.x) (a.y -ℤ v.y) (v.x -ℤ b.x) (v.y -ℤ b.y) = rw (second_turned v a b) (omega (arith, e, le, ints)) in
      let bc : pos 0 <ℤ cross (v.x -ℤ b.x) (v.y -ℤ b.y) (v.x -ℤ c.x) (v.y -ℤ c.y) = rw (half_turned v b c) k in
      let ac : pos 0 <ℤ cross (a.x -ℤ v.x) (a.y -ℤ v.y) (v.x -ℤ c.x) (v.y -ℤ c.y) = onward _ _ _ _ _ _ x y z ab bc in
      last_two k (rw (second_turned v a c) at ac))
  turning (in_second x y h) (in_first y' z k) = absurd (no_two v b y' y)
  turning (in_second x y h) (across y' z) = absurd (no_two v b y' y)
  turning (in_second x y h) (in_second y' z k) = first_two h k

  pub met-turns : is_met_first v a b ≡ true → is_met_first v b c ≡ true → TurnsLeft v a b c
  met-turns h k =
      let i = half v a a_away in let j = half v b b_away in let l = half v c c_away in
      turning (meeting v a b i j h) (meeting v b c j l k)

-- vectors in the half that are parallel lead the same way
same_way : (ax ay bx by : ℤ) → Ahead ax ay → Ahead bx by → cross ax ay bx by ≡ pos 0 → pos 0 <ℤ inner ax ay bx by
same_way ax ay bx by a b parallel = by_halves a b above_b
  where
    above_b : inner ax ay bx by *ℤ by ≡ ay *ℤ inner bx by bx by +ℤ cross ax ay bx by *ℤ bx
    above_b =
        let AX = var 0 in let AY = var 1 in let BX = var 2 in let BY = var 3 in
        by_parts (ax ∷ ay ∷ bx ∷ by ∷ []) ((AX ⊠ BX ⊞ AY ⊠ BY) ⊠ BY) (AY ⊠ (BX ⊠ BX ⊞ BY ⊠ BY) ⊞ (AX ⊠ BY ⊟ AY ⊠ BX) ⊠ BX) (omega arith)

    by_halves : Ahead ax ay → Ahead bx by → inner ax ay bx by *ℤ by ≡ ay *ℤ inner bx by bx by +ℤ cross ax ay bx by *ℤ bx → pos 0 <ℤ inner ax ay bx by
    by_halves (north h) (north k) same =
        let l = square bx in let m = positive-positive by by k k in
        let n = positive-positive ay (inner bx by bx by) h (omega (arith, l, m, ints)) in
        let o = zero-times (cross ax ay bx by) bx parallel in
        above_if (inner ax ay bx by) by k (omega (arith, same, n, o, ints))
    by_halves (north h) (east k l) same =
        let m = positive-positive ay bx h l in let n = flat_second ax ay bx by k in absurd (omega (arith, m, n, parallel, ints))
    by_halves (east h k) (north l) same =
        let m = positive-positive ax by k l in let n = flat_first ax ay bx by h in absurd (omega (arith, m, n, parallel, ints))
    by_halves (east h k) (east l m) same =
        let n = positive-positive ax bx k m in let o = zero-times ay by h in omega (arith, n, o, ints)

-- of two different directions one is met before the other
pub met-total : (v a b : Position) → ¬ (a ≡ v) → ¬ (b ≡ v) → ¬ IsSameDirection v a b → (is_met_first v a b ≡ true) ⊎ (is_met_first v b a ≡ true)
met-total v a b a_away b_away apart = by i j (sign (orientation v a b))
  where
    i : Half v a
    i = half v a a_away

    j : Half v b
    j = half v b b_away

    before : Meeting v a b → (is_met_first v a b ≡ true) ⊎ (is_met_first v b a ≡ true)
    before m = inl (met v a b i j m)

    after : Meeting v b a → (is_met_first v a b ≡ true) ⊎ (is_met_first v b a ≡ true)
    after m = inr (met v b a j i m)

    back : orientation v b a ≡ neg_ℤ (orientation v a b)
    back = cross_back (a.x -ℤ v.x) (a.y -ℤ v.y) (b.x -ℤ v.x) (b.y -ℤ v.y)

    -- the inner product of both vectors turned by half a turn
    dot_turned : inner (v.x -ℤ a.x) (v.y -ℤ a.y) (v.x -ℤ b.x) (v.y -ℤ b.y) ≡ dot v a b
    dot_turned =
        let VX = var 0 in let VY = var 1 in let AX = var 2 in let AY = var 3 in let BX = var 4 in let BY = var 5 in
        by_parts (v.x ∷ v.y ∷ a.x ∷ a.y ∷ b.x ∷ b.y ∷ []) ((VX ⊟ AX) ⊠ (VX ⊟ BX) ⊞ (VY ⊟ AY) ⊠ (VY ⊟ BY)) ((AX ⊟ VX) ⊠ (BX ⊟ VX) ⊞ (AY ⊟ VY) ⊠ (BY ⊟ VY)) (omega arith)

    by : Half v a → Half v b → Sign (orientation v a b) → (is_met_first v a b ≡ true) ⊎ (is_met_first v b a ≡ true)
    by (first p x) (second q y) s = before (across x y)
    by (second p x) (first q y) s = after (across y x)
    by (first p x) (first q y) (above k u) = before (in_first x y k)
    by (first p x) (first q y) (below k u) = after (in_first y x (omega (arith, back, k, ints)))
    by (first p x) (first q y) (zero_ k u) = absurd (apart (record { parallel = k; same_way = same_way _ _ _ _ x y k }))
    by (second p x) (second q y) (above k u) = before (in_second x y k)
    by (second p x) (second q y) (below k u) = after (in_second y x (omega (arith, back, k, ints)))
    by (second p x) (second q y) (zero_ k u) = absurd (apart (record { parallel = k; same_way = rw dot_turned at (same_way _ _ _ _ x y (half_turned v a b ∙ k)) }))

-- directions of which one is met first are two
pub met-apart : (v a b : Position) → ¬ (a ≡ v) → ¬ (b ≡ v) → is_met_first v a b ≡ true → ¬ IsSameDirection v a b
met-apart v a b a_away b_away h s = by (meeting v a b (half v a a_away) (half v b b_away) h)
  where
    by : Meeting v a b → ⊥
    by (in_first x y k) = let l = s.parallel in omega (arith, k, l, ints)
    by (in_second x y k) = let l = s.parallel in omega (arith, k, l, ints)
    by (across x y) =
        let back : orientation v b a ≡ neg_ℤ (orientation v a b) = cross_back (a.x -ℤ v.x) (a.y -ℤ v.y) (b.x -ℤ v.x) (b.y -ℤ v.y) in
        let p = s.parallel in let q = s.same_way in let o = second_opposite v a b in
        let k = same_way _ _ _ _ x y (second_turned v a b ∙ omega (arith, back, p, ints)) in
        omega (arith, k, o, q, ints)

pub same-exchanged : (v a b : Position) → IsSameDirection v a b → IsSameDirection v b a
same-exchanged v a b s = record {
  parallel = (let back : orientation v b a ≡ neg_ℤ (orientation v a b) = cross_back (a.x -ℤ v.x) (a.y -ℤ v.y) (b.x -ℤ v.x) (b.y -ℤ v.y) in let p = s.parallel in omega (arith, back, p, ints));
  same_way = (let e : dot v b a ≡ dot v a b = inner_back (a.x -ℤ v.x) (a.y -ℤ v.y) (b.x -ℤ v.x) (b.y -ℤ v.y) in let q = s.same_way in omega (arith, e, q, ints));
}

-- ---- Three directions in a row

-- w is in the sector from x to u, and so x isn't in the one from w to u
pub record IsBetween (v x w u : Position) : Type 0 where
  pub inside : in_sector v x u w ≡ true
  pub outside : in_sector v w u x ≡ false

between-turns : (v x w u : Position) → AreThreeDirections v x u w → TurnsLeft v x w u → IsBetween v x w u
between-turns v x w u three turns =
    let xw = orientation v x w in let wu = orientation v w u in let ux = orientation v u x in
    let back_xu : orientation v x u ≡ neg_ℤ ux = cross_back (u.x -ℤ v.x) (u.y -ℤ v.y) (x.x -ℤ v.x) (x.y -ℤ v.y) in
    let back_uw : orientation v u w ≡ neg_ℤ wu = cross_back (w.x -ℤ v.x) (w.y -ℤ v.y) (u.x -ℤ v.x) (u.y -ℤ v.y) in
    let back_wx : orientation v w x ≡ neg_ℤ xw = cross_back (x.x -ℤ v.x) (x.y -ℤ v.y) (w.x -ℤ v.x) (w.y -ℤ v.y) in
    let inside : in_sector v x u w ≡ true =
    (λ i. by_signs (back_xu i) xw wu (back_uw i) (back_wx i) (dot v x u) (dot v x w)) ∙ sector-turns xw wu ux (dot v x u) (dot v x w) turns (sign xw) (sign wu) (sign ux) in
    record { inside = inside; outside = not-true (in_sector v w u x) (sym (one_is_first v x u w three) ∙ inside) }

-- of directions that are met one after another each lies between the other two
module _ (v a b c : Position) (a_away : ¬ (a ≡ v)) (b_away : ¬ (b ≡ v)) (c_away : ¬ (c ≡ v)) (ab : is_met_first v a b ≡ true) (bc : is_met_first v b c ≡ true) where
  turns : TurnsLeft v a b c
  turns = met-turns v a b c a_away b_away c_away ab bc

  ab_apart : ¬ IsSameDirection v a b
  ab_apart = met-apart v a b a_away b_away ab

  bc_apart : ¬ IsSameDirection v b c
  bc_apart = met-apart v b c b_away c_away bc

  ac_apart : ¬ IsSameDirection v a c
  ac_apart = met-apart v a c a_away c_away (met-later v a b c a_away b_away c_away ab bc)

  pub second-between : IsBetween v a b c
  second-between = between-turns v a b c (record { n_away = a_away; p_away = c_away; w_away = b_away; n_from_p = ac_apart; n_from_w = ab_apart; w_from_p = bc_apart }) turns

  pub last-between : IsBetween v b c a
  last-between =
      between-turns v b c a (record { n_away = b_away; p_away = a_away; w_away = c_away; n_from_p = (λ s. ab_apart (same-exchanged v b a s)); n_from_w = bc_apart; w_from_p = (λ s. ac_apart (same-exchanged v c a s)) })
      (onward_turns _ _ _ turns)

  pub first-between : IsBetween v c a b
  first-between =
      between-turns v c a b (record { n_away = c_away; p_away = b_away; w_away = a_away; n_from_p = (λ s. bc_apart (same-exchanged v c b s)); n_from_w = (λ s. ac_apart (same-exchanged v c a s)); w_from_p = ab_apart })
      (onward_turns _ _ _ (onward_turns _ _ _ turns))

-- no direction is met before itself
pub not-met-itself : (v a : Position) → is_met_first v a a ≡ false
not-met-itself v a = by (is_ahead v a) (lt_false (pos 0) (orientation v a a) (omega (arith, cross_self (a.x -ℤ v.x) (a.y -ℤ v.y), ints)))
  where
    by : (ahead : Bool) → int_lt (pos 0) (orientation v a a) ≡ false → (if ahead then (not ahead || int_lt (pos 0) (orientation v a a)) else (not ahead && int_lt (pos 0) (orientation v a a))) ≡ false
    by true none = none
    by false none = none

-- ---- On a segment

-- a position on the segment from v to a that isn't v lies in the direction of a
pub on-same_direction : (v a b : Position) → ¬ (b ≡ v) → IsOnSegment v a b → IsSameDirection v a b
on-same_direction v a b b_away on = record {
  parallel = zero_if (orientation v a b) (pos on.n) some parallel;
  same_way = above_if (dot v a b) (pos on.s) ahead forward;
}
  where
    some : pos 0 <ℤ pos on.n
    some = let h = on.some in omega (arith, h, ints)

    ax : ℤ
    ax = a.x -ℤ v.x

    ay : ℤ
    ay = a.y -ℤ v.y

    bx : ℤ
    bx = b.x -ℤ v.x

    by : ℤ
    by = b.y -ℤ v.y

    along : (n s t v a b : ℤ) → n *ℤ v +ℤ s *ℤ (a -ℤ v) ≡ n *ℤ b +ℤ t *ℤ (b -ℤ b) → s *ℤ (a -ℤ v) ≡ n *ℤ (b -ℤ v)
    along n s t v a b h =
        let N = var 0 in let T = var 1 in let V = var 2 in let B = var 3 in
        let e = by_parts (n ∷ t ∷ v ∷ b ∷ []) (N ⊠ B ⊞ T ⊠ (B ⊟ B)) (N ⊠ (B ⊟ V) ⊞ N ⊠ V) (omega arith) in
        omega (arith, h, e, ints)

    along_x : pos on.s *ℤ ax ≡ pos on.n *ℤ bx
    along_x = along (pos on.n) (pos on.s) (pos on.t) v.x a.x b.x (ap (λ (p : Position). p.x) on.same)

    along_y : pos on.s *ℤ ay ≡ pos on.n *ℤ by
    along_y = along (pos on.n) (pos on.s) (pos on.t) v.y a.y b.y (ap (λ (p : Position). p.y) on.same)

    parallel : orientation v a b *ℤ pos on.n ≡ pos 0
    parallel =
        let AX = var 0 in let AY = var 1 in let BX = var 2 in let BY = var 3 in let N = var 4 in let S = var 5 in
        let at = ax ∷ ay ∷ bx ∷ by ∷ pos on.n ∷ pos on.s ∷ [] in
        by_parts at ((AX ⊠ BY ⊟ AY ⊠ BX) ⊠ N) (AX ⊠ (N ⊠ BY) ⊟ AY ⊠ (N ⊠ BX)) (omega arith)
        ∙ (λ i. ax *ℤ sym along_y i -ℤ ay *ℤ sym along_x i)
        ∙ by_parts at (AX ⊠ (S ⊠ AY) ⊟ AY ⊠ (S ⊠ AX)) (num (pos 0)) (omega arith)

    forward : pos 0 <ℤ (dot v a b *ℤ pos on.s)
    forward =
        let AX = var 0 in let AY = var 1 in let BX = var 2 in let BY = var 3 in let N = var 4 in let S = var 5 in
        let at = ax ∷ ay ∷ bx ∷ by ∷ pos on.n ∷ pos on.s ∷ [] in
        let e : dot v a b *ℤ pos on.s ≡ dot v b b *ℤ pos on.n =
        by_parts at ((AX ⊠ BX ⊞ AY ⊠ BY) ⊠ S) (BX ⊠ (S ⊠ AX) ⊞ BY ⊠ (S ⊠ AY)) (omega arith)
        ∙ (λ i. bx *ℤ along_x i +ℤ by *ℤ along_y i)
        ∙ by_parts at (BX ⊠ (N ⊠ BX) ⊞ BY ⊠ (N ⊠ BY)) ((BX ⊠ BX ⊞ BY ⊠ BY) ⊠ N) (omega arith) in
        let k = positive-positive (dot v b b) (pos on.n) (away v b b_away) some in
        omega (arith, e, k, ints)

    ahead : pos 0 <ℤ pos on.s
    ahead = go (sign (pos on.s))
      where
        go : Sign (pos on.s) → pos 0 <ℤ pos on.s
        go (above p u) = p
        go (zero_ p u) = let z = times-zero (dot v a b) (pos on.s) p in let h = forward in absurd (omega (arith, z, h, ints))
        go (below p u) = absurd (omega (arith, p, ints))
