-- What a sector leaves out: the position that it is at, and the two directions that border it.
use Rattle.std.proofs.Common.{◌≡◌, refl, sym, ap, ◌∙◌, [], ◌∷◌, ℤ, pos, ◌+ℤ◌, ◌-ℤ◌, ◌*ℤ◌, ◌<ℤ◌, ◌≤ℤ◌, neg_ℤ, arith, Bool, true, false, true≢false}
use Rattle.std.specs.Prelude.{int_lt, if◌then◌else◌}
use Rattle.std.proofs.lemmas.Int.{ints}
use Rattle.std.proofs.Math.Bool.{and-false}
use Rattle.geo_exact.specs.Position.{Position}
use Rattle.geo_exact.specs.Orientation.{orientation, dot, IsSameDirection}
use Rattle.geo_exact.specs.Sector.{in_sector, AreThreeDirections}
use Rattle.geo_exact.proofs.Polynomial.{by_parts}
use Rattle.geo_exact.proofs.Polynomial.Polynomial.{var, num, ◌⊞◌, ◌⊟◌, ◌⊠◌}
use Rattle.geo_exact.proofs.Signs.{negative-positive, zero-times}
use Rattle.geo_exact.proofs.Directions.Sign.{above, zero_, below}
use Rattle.geo_exact.proofs.Directions.{by_signs, Sign, sign, cross, inner, cross_back, along_n, along_p, through_p, below_if, zero_if, away, length_not_negative}

pub cross_self : (x y : ℤ) → cross x y x y ≡ pos 0
cross_self x y = omega (arith, ints)

not_less : (z : ℤ) → pos 0 ≤ℤ z → int_lt z (pos 0) ≡ false
not_less z h = grind (arith, ints)

not_more : (z : ℤ) → z ≤ℤ pos 0 → int_lt (pos 0) z ≡ false
not_more z h = grind (arith, ints)

neg_not_less : (z : ℤ) → z ≤ℤ pos 0 → int_lt (neg_ℤ z) (pos 0) ≡ false
neg_not_less z h = grind (arith, ints)

-- The table in the direction of n: z, b and c are the orientations of n and p, n and w, w and p, and d and
-- g the inner products that it reads.
at_first : (z b c d g : ℤ) → b ≡ pos 0 → (z <ℤ pos 0 → c ≤ℤ pos 0) → pos 0 ≤ℤ g → Sign z
    → by_signs z b c (neg_ℤ c) (neg_ℤ b) d g ≡ false
at_first z b c d g none right h s = by s
  where
    no_more : int_lt (pos 0) b ≡ false
    no_more = not_more b (omega (arith, none, ints))

    either : (t : Bool) → (if t then false else false) ≡ false
    either true = refl
    either false = refl

    by : Sign z → by_signs z b c (neg_ℤ c) (neg_ℤ b) d g ≡ false
    by (above p u) = simp (u.more, no_more)
    by (below p u) =
        simp (u.more, u.less, neg_not_less c (right p), neg_not_less b (omega (arith, none, ints)))
    by (zero_ p u) =
        simp (u.more, u.less, no_more, not_less b (omega (arith, none, ints)), not_less g h)
        (either (int_lt d (pos 0)))

-- and in that of p
at_last : (z b c d g : ℤ) → c ≡ pos 0 → (z <ℤ pos 0 → b ≤ℤ pos 0)
    → (z ≡ pos 0 → (b ≡ pos 0) × (g <ℤ pos 0 → d <ℤ pos 0)) → Sign z
    → by_signs z b c (neg_ℤ c) (neg_ℤ b) d g ≡ false
at_last z b c d g none right flat s = by s
  where
    by_inner : Sign d → Sign g → (g <ℤ pos 0 → d <ℤ pos 0)
        → (if int_lt d (pos 0) then false else int_lt g (pos 0)) ≡ false
    by_inner (below h k) t f = simp k.less
    by_inner (above h k) (below l m) f = absurd (let n = f l in omega (arith, h, n, ints))
    by_inner (zero_ h k) (below l m) f = absurd (let n = f l in omega (arith, h, n, ints))
    by_inner (above h k) (above l m) f = simp (k.less, m.less)
    by_inner (above h k) (zero_ l m) f = simp (k.less, m.less)
    by_inner (zero_ h k) (above l m) f = simp (k.less, m.less)
    by_inner (zero_ h k) (zero_ l m) f = simp (k.less, m.less)

    by : Sign z → by_signs z b c (neg_ℤ c) (neg_ℤ b) d g ≡ false
    by (above p u) = simp (u.more, not_more c (omega (arith, none, ints)), and-false)
    by (below p u) =
        simp (u.more, u.less, neg_not_less c (omega (arith, none, ints)), neg_not_less b (right p))
    by (zero_ p u) =
        let e = (flat p).0 in
        simp (u.more, u.less, not_more b (omega (arith, e, ints)), not_less b (omega (arith, e, ints)))
        (by_inner (sign d) (sign g) (flat p).1)

module _ (v n p w : Position) where
  abbrev np : ℤ
  np = orientation v n p

  abbrev nw : ℤ
  nw = orientation v n w

  abbrev wp : ℤ
  wp = orientation v w p

  -- in_sector is the table of three orientations and two inner products
  reads : in_sector v n p w ≡ by_signs np nw wp (neg_ℤ wp) (neg_ℤ nw) (dot v n p) (dot v n w)
  reads =
      let nx = n.x -ℤ v.x in let ny = n.y -ℤ v.y in let px = p.x -ℤ v.x in let py = p.y -ℤ v.y in
      let wx = w.x -ℤ v.x in let wy = w.y -ℤ v.y in
      let back_wp : orientation v p w ≡ neg_ℤ wp = cross_back wx wy px py in
      let back_nw : orientation v w n ≡ neg_ℤ nw = cross_back nx ny wx wy in
      λ i. by_signs np nw wp (back_wp i) (back_nw i) (dot v n p) (dot v n w)

  -- the identities of three vectors, at these
  of_n : nw *ℤ dot v n p +ℤ wp *ℤ dot v n n ≡ np *ℤ dot v n w
  of_n = along_n (n.x -ℤ v.x) (n.y -ℤ v.y) (p.x -ℤ v.x) (p.y -ℤ v.y) (w.x -ℤ v.x) (w.y -ℤ v.y)

  of_p : nw *ℤ dot v p p +ℤ wp *ℤ dot v n p ≡ np *ℤ dot v w p
  of_p = along_p (n.x -ℤ v.x) (n.y -ℤ v.y) (p.x -ℤ v.x) (p.y -ℤ v.y) (w.x -ℤ v.x) (w.y -ℤ v.y)

  by_p : dot v n w *ℤ dot v p p ≡ dot v n p *ℤ dot v w p +ℤ np *ℤ wp
  by_p = through_p (n.x -ℤ v.x) (n.y -ℤ v.y) (p.x -ℤ v.x) (p.y -ℤ v.y) (w.x -ℤ v.x) (w.y -ℤ v.y)

  -- what lies in the direction of n isn't in the sector from n to p
  none-first : ¬ (n ≡ v) → IsSameDirection v n w → in_sector v n p w ≡ false
  none-first n_away s =
      let same = s.same_way in let parallel = s.parallel in
      reads ∙ at_first np nw wp (dot v n p) (dot v n w) parallel
      (λ h.
      let k = negative-positive np (dot v n w) h same in
      let l = zero-times nw (dot v n p) parallel in
      let e = of_n in
      let r = below_if wp (dot v n n) (away v n n_away) (omega (arith, e, k, l, ints)) in
      omega (arith, r, ints))
      (omega (arith, same, ints)) (sign np)

  -- nor what lies in that of p
  none-last : ¬ (p ≡ v) → IsSameDirection v w p → in_sector v n p w ≡ false
  none-last p_away s =
      let same = s.same_way in let parallel = s.parallel in
      let k = zero-times wp (dot v n p) parallel in let e = of_p in
      reads ∙ at_last np nw wp (dot v n p) (dot v n w) parallel
      (λ h.
      let l = negative-positive np (dot v w p) h same in
      let r = below_if nw (dot v p p) (away v p p_away) (omega (arith, e, k, l, ints)) in
      omega (arith, r, ints))
      (λ h. (
        (let l = zero-times np (dot v w p) h in
            zero_if nw (dot v p p) (away v p p_away) (omega (arith, e, k, l, ints))),
        (λ back.
            let l = zero-times np wp h in
            let m = negative-positive (dot v n w) (dot v p p) back (away v p p_away) in
            let f = by_p in
            below_if (dot v n p) (dot v w p) same (omega (arith, f, l, m, ints))),
      ))
      (sign np)

module _ (v n p : Position) where
  pub in_sector-first_border : in_sector v n p n ≡ false
  in_sector-first_border =
      let z = orientation v n p in
      let self : orientation v n n ≡ pos 0 = cross_self (n.x -ℤ v.x) (n.y -ℤ v.y) in
      reads v n p n ∙ at_first z (orientation v n n) z (dot v n p) (dot v n n) self
      (λ h. omega (arith, h, ints)) (length_not_negative (n.x -ℤ v.x) (n.y -ℤ v.y)) (sign z)

  pub in_sector-last_border : in_sector v n p p ≡ false
  in_sector-last_border =
      let z = orientation v n p in
      let self : orientation v p p ≡ pos 0 = cross_self (p.x -ℤ v.x) (p.y -ℤ v.y) in
      reads v n p p ∙ at_last z z (orientation v p p) (dot v n p) (dot v n p) self
      (λ h. omega (arith, h, ints)) (λ h. (h, λ k. k)) (sign z)

-- cross and inner product of a vector and none
cross_none : (x y a b : ℤ) → cross x y (a -ℤ a) (b -ℤ b) ≡ pos 0
cross_none x y a b =
    let X = var 0 in let Y = var 1 in let A = var 2 in let B = var 3 in
    by_parts (x ∷ y ∷ a ∷ b ∷ []) (X ⊠ (B ⊟ B) ⊟ Y ⊠ (A ⊟ A)) (num (pos 0)) (omega arith)

inner_none : (x y a b : ℤ) → inner x y (a -ℤ a) (b -ℤ b) ≡ pos 0
inner_none x y a b =
    let X = var 0 in let Y = var 1 in let A = var 2 in let B = var 3 in
    by_parts (x ∷ y ∷ a ∷ b ∷ []) (X ⊠ (A ⊟ A) ⊞ Y ⊠ (B ⊟ B)) (num (pos 0)) (omega arith)

-- nothing at v is in a sector at v
none-at : (v n p : Position) → in_sector v n p v ≡ false
none-at v n p =
    let nv = cross_none (n.x -ℤ v.x) (n.y -ℤ v.y) v.x v.y in
    let pv = cross_none (p.x -ℤ v.x) (p.y -ℤ v.y) v.x v.y in
    let vp = cross_back (p.x -ℤ v.x) (p.y -ℤ v.y) (v.x -ℤ v.x) (v.y -ℤ v.y) in
    let nothing = inner_none (n.x -ℤ v.x) (n.y -ℤ v.y) v.x v.y in
    reads v n p v
    ∙ at_first (orientation v n p) (orientation v n v) (orientation v v p) (dot v n p) (dot v n v) nv
    (λ h. omega (arith, pv, vp, ints)) (omega (arith, nothing, ints)) (sign (orientation v n p))

-- w isn't at v, and its direction is neither that of n nor that of p
pub record IsApart (v n p w : Position) : Type 0 where
  pub w_away : ¬ (w ≡ v)
  pub n_from_w : ¬ IsSameDirection v n w
  pub w_from_p : ¬ IsSameDirection v w p

-- what is in the sector from n to p lies apart from v, n and p
pub in_sector-apart : (v n p w : Position) → ¬ (n ≡ v) → ¬ (p ≡ v) → in_sector v n p w ≡ true
    → IsApart v n p w
in_sector-apart v n p w n_away p_away inside = record {
  w_away = λ e. true≢false (sym inside ∙ ap (in_sector v n p) e ∙ none-at v n p);
  n_from_w = λ s. true≢false (sym inside ∙ none-first v n p w n_away s);
  w_from_p = λ s. true≢false (sym inside ∙ none-last v n p w p_away s);
}

-- so where n and p are two directions, these are three
pub in_sector-three : (v n p w : Position) → ¬ (n ≡ v) → ¬ (p ≡ v) → ¬ IsSameDirection v n p
    → in_sector v n p w ≡ true → AreThreeDirections v n p w
in_sector-three v n p w n_away p_away n_from_p inside =
    let h = in_sector-apart v n p w n_away p_away inside in
    record {
      n_away = n_away;
      p_away = p_away;
      w_away = h.w_away;
      n_from_p = n_from_p;
      n_from_w = h.n_from_w;
      w_from_p = h.w_from_p;
    }
