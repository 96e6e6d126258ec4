-- Of two positions in one direction from a third, one lies on the segment to the other.
use Rattle.std.proofs.Common.{◌≡◌, ℕ, ◌⊎◌, inl, inr, refl, sym, ap, ◌∙◌, [], ◌∷◌, ℤ, pos, negsuc, ◌+ℤ◌, ◌-ℤ◌, ◌*ℤ◌, ◌<ℤ◌, ◌≤ℤ◌, arith}
use Rattle.std.proofs.lemmas.Int.{ints, by_lt_z}
use Rattle.geo_exact.specs.Position.{Position}
use Rattle.geo_exact.specs.Orientation.{orientation, dot, IsSameDirection}
use Rattle.geo_exact.specs.Segment.{IsOnSegment}
use Rattle.geo_exact.proofs.Toolbox.{by_parts, var, num, ◌⊞◌, ◌⊟◌, ◌⊠◌, positive-positive, zero-times, square}

-- an integer that is not negative is a natural
natural : (z : ℤ) → pos 0 ≤ℤ z → (n : ℕ) × (z ≡ pos n)
natural (pos n) h = (n, refl)
natural (negsuc n) h = absurd (omega (arith, ints, h))

-- ---- Two vectors a and b, with c their cross product, d their inner product, and the squares of their lengths

module _ (ax ay bx by : ℤ) where
  abbrev c : ℤ
  c = ax *ℤ by -ℤ ay *ℤ bx

  abbrev d : ℤ
  d = ax *ℤ bx +ℤ ay *ℤ by

  abbrev aa : ℤ
  aa = ax *ℤ ax +ℤ ay *ℤ ay

  abbrev bb : ℤ
  bb = bx *ℤ bx +ℤ by *ℤ by

  -- d times a is as long as the square of a times b, but for a multiple of c
  along_x : d *ℤ ax ≡ aa *ℤ bx +ℤ c *ℤ ay
  along_x = by_parts (ax ∷ ay ∷ bx ∷ by ∷ [])
      ((var 0 ⊠ var 2 ⊞ var 1 ⊠ var 3) ⊠ var 0)
      ((var 0 ⊠ var 0 ⊞ var 1 ⊠ var 1) ⊠ var 2 ⊞ (var 0 ⊠ var 3 ⊟ var 1 ⊠ var 2) ⊠ var 1)
      (omega arith)

  along_y : d *ℤ ay ≡ aa *ℤ by -ℤ c *ℤ ax
  along_y = by_parts (ax ∷ ay ∷ bx ∷ by ∷ [])
      ((var 0 ⊠ var 2 ⊞ var 1 ⊠ var 3) ⊠ var 1)
      ((var 0 ⊠ var 0 ⊞ var 1 ⊠ var 1) ⊠ var 3 ⊟ (var 0 ⊠ var 3 ⊟ var 1 ⊠ var 2) ⊠ var 0)
      (omega arith)

  squares : c *ℤ c ≡ aa *ℤ bb -ℤ d *ℤ d
  squares = by_parts (ax ∷ ay ∷ bx ∷ by ∷ [])
      ((var 0 ⊠ var 3 ⊟ var 1 ⊠ var 2) ⊠ (var 0 ⊠ var 3 ⊟ var 1 ⊠ var 2))
      ((var 0 ⊠ var 0 ⊞ var 1 ⊠ var 1) ⊠ (var 2 ⊠ var 2 ⊞ var 3 ⊠ var 3) ⊟ (var 0 ⊠ var 2 ⊞ var 1 ⊠ var 3) ⊠ (var 0 ⊠ var 2 ⊞ var 1 ⊠ var 3))
      (omega arith)

-- a number above two others, not both of whose products it can have as its square
apart : (a b d : ℤ) → d *ℤ d -ℤ a *ℤ b ≡ (d -ℤ a) *ℤ (d -ℤ b) +ℤ a *ℤ (d -ℤ b) +ℤ b *ℤ (d -ℤ a)
apart a b d = by_parts (a ∷ b ∷ d ∷ [])
    (var 2 ⊠ var 2 ⊟ var 0 ⊠ var 1)
    ((var 2 ⊟ var 0) ⊠ (var 2 ⊟ var 1) ⊞ var 0 ⊠ (var 2 ⊟ var 1) ⊞ var 1 ⊠ (var 2 ⊟ var 0))
    (omega arith)

product_not_negative : (x y : ℤ) → pos 0 ≤ℤ x → pos 0 <ℤ y → pos 0 ≤ℤ (x *ℤ y)
product_not_negative x y hx hy = by_lt_z (pos 0) x
    (λ some. let k = positive-positive x y some hy in omega (arith, ints, k))
    (λ none. let zero_ : x ≡ pos 0 = omega (arith, ints, hx, none) in let k = zero-times x y zero_ in omega (arith, ints, k))

not_both_above : (a b d : ℤ) → pos 0 ≤ℤ a → pos 0 ≤ℤ b → d *ℤ d ≡ a *ℤ b → a <ℤ d → b <ℤ d → ⊥
not_both_above a b d ha hb same above_a above_b =
    let first : pos 0 <ℤ (d -ℤ a) = omega (arith, ints, above_a) in
    let second : pos 0 <ℤ (d -ℤ b) = omega (arith, ints, above_b) in
    let k = positive-positive (d -ℤ a) (d -ℤ b) first second in
    let k1 = product_not_negative a (d -ℤ b) ha second in
    let k2 = product_not_negative b (d -ℤ a) hb first in
    let e = apart a b d in
    absurd (omega (arith, ints, same, k, k1, k2, e))

-- ---- Positions

-- s parts of n on the way from v to a lead to b
coordinate : (n s v a b : ℤ) → s *ℤ (a -ℤ v) ≡ n *ℤ (b -ℤ v) → n *ℤ v +ℤ s *ℤ (a -ℤ v) ≡ n *ℤ b +ℤ pos 0 *ℤ (b -ℤ b)
coordinate n s v a b h =
    ap (λ (z : ℤ). n *ℤ v +ℤ z) h
    ∙ by_parts (n ∷ v ∷ b ∷ []) (var 0 ⊠ var 1 ⊞ var 0 ⊠ (var 2 ⊟ var 1)) (var 0 ⊠ var 2 ⊞ num (pos 0) ⊠ (var 2 ⊟ var 2)) (omega arith)

module _ (v a b : Position) (same : IsSameDirection v a b) where
  abbrev length_a : ℤ
  length_a = dot v a a

  nearer : dot v a b ≤ℤ dot v a a → IsOnSegment v a b
  nearer le =
      let ax = a.x -ℤ v.x in let ay = a.y -ℤ v.y in let bx = b.x -ℤ v.x in let by = b.y -ℤ v.y in
      let way = same.same_way in
      let s = natural (dot v a b) (omega (arith, ints, way)) in
      let n = natural (dot v a a) (omega (arith, ints, way, le)) in
      let ex = along_x ax ay bx by in
      let ey = along_y ax ay bx by in
      let kx = zero-times (orientation v a b) ay same.parallel in
      let ky = zero-times (orientation v a b) ax same.parallel in
      let x : pos s.0 *ℤ ax ≡ pos n.0 *ℤ bx = ap (λ (z : ℤ). z *ℤ ax) (sym s.1) ∙ without (dot v a b *ℤ ax) (dot v a a *ℤ bx) (orientation v a b *ℤ ay) ex kx ∙ ap (λ (z : ℤ). z *ℤ bx) n.1 in
      let y : pos s.0 *ℤ ay ≡ pos n.0 *ℤ by = ap (λ (z : ℤ). z *ℤ ay) (sym s.1) ∙ without_too (dot v a b *ℤ ay) (dot v a a *ℤ by) (orientation v a b *ℤ ax) ey ky ∙ ap (λ (z : ℤ). z *ℤ by) n.1 in
      record {
        n = n.0;
        s = s.0;
        t = 0;
        some = (let e = n.1 in omega (arith, ints, way, le, e));
        on_first = (let e = n.1 in let k = s.1 in omega (arith, ints, le, e, k));
        on_second = omega arith;
        same = λ i. record { x = coordinate (pos n.0) (pos s.0) v.x a.x b.x x i; y = coordinate (pos n.0) (pos s.0) v.y a.y b.y y i };
      }
    where
      without : (p q r : ℤ) → p ≡ q +ℤ r → r ≡ pos 0 → p ≡ q
      without p q r h k = omega (arith, ints)

      without_too : (p q r : ℤ) → p ≡ q -ℤ r → r ≡ pos 0 → p ≡ q
      without_too p q r h k = omega (arith, ints)

dot-exchanged : (v a b : Position) → dot v b a ≡ dot v a b
dot-exchanged v a b =
    by_parts ((a.x -ℤ v.x) ∷ (a.y -ℤ v.y) ∷ (b.x -ℤ v.x) ∷ (b.y -ℤ v.y) ∷ []) (var 2 ⊠ var 0 ⊞ var 3 ⊠ var 1) (var 0 ⊠ var 2 ⊞ var 1 ⊠ var 3) (omega arith)

direction-exchanged : (v a b : Position) → IsSameDirection v a b → IsSameDirection v b a
direction-exchanged v a b same =
    let ax = a.x -ℤ v.x in let ay = a.y -ℤ v.y in let bx = b.x -ℤ v.x in let by = b.y -ℤ v.y in
    let e : orientation v b a ≡ pos 0 -ℤ orientation v a b =
    by_parts (ax ∷ ay ∷ bx ∷ by ∷ []) (var 2 ⊠ var 1 ⊟ var 3 ⊠ var 0) (num (pos 0) ⊟ (var 0 ⊠ var 3 ⊟ var 1 ⊠ var 2)) (omega arith) in
    let k = dot-exchanged v a b in
    record { parallel = e ∙ ap (λ (z : ℤ). pos 0 -ℤ z) same.parallel; same_way = (let way = same.same_way in omega (arith, ints, k, way)) }

pub on_segment : (v a b : Position) → IsSameDirection v a b → IsOnSegment v a b ⊎ IsOnSegment v b a
on_segment v a b same =
    let ax = a.x -ℤ v.x in let ay = a.y -ℤ v.y in let bx = b.x -ℤ v.x in let by = b.y -ℤ v.y in
    by_lt_z (dot v a a) (dot v a b)
    (λ above_a. by_lt_z (dot v b b) (dot v a b)
    (λ above_b. absurd (not_both_above (dot v a a) (dot v b b) (dot v a b) (not_negative ax ay) (not_negative bx by) (length_product ax ay bx by) above_a above_b))
    (λ le. inr (nearer v b a (direction-exchanged v a b same) (let k = dot-exchanged v a b in omega (arith, ints, k, le)))))
    (λ le. inl (nearer v a b same le))
  where
    not_negative : (x y : ℤ) → pos 0 ≤ℤ (x *ℤ x +ℤ y *ℤ y)
    not_negative x y = let h = square x in let k = square y in omega (arith, ints, h, k)

    length_product : (ax ay bx by : ℤ) → dot v a b *ℤ dot v a b ≡ dot v a a *ℤ dot v b b
    length_product ax ay bx by =
        let e = squares (a.x -ℤ v.x) (a.y -ℤ v.y) (b.x -ℤ v.x) (b.y -ℤ v.y) in
        let k = zero-times (orientation v a b) (orientation v a b) same.parallel in
        omega (arith, ints, e, k)
