-- Common locations of segments, and of two that begin at one position.
use Rattle.std.proofs.Common.{◌≡◌, ℕ, zero, suc, ◌+◌, ◌-◌, ◌<◌, ◌≤◌, refl, sym, ap, ◌∙◌, [], ◌∷◌, ℤ, pos, ◌+ℤ◌, ◌-ℤ◌, ◌*ℤ◌, ◌<ℤ◌, arith, inl, inr, le_refl}
use Rattle.std.specs.Prelude.{◌↔◌}
use Rattle.std.proofs.lemmas.Int.{ints, by_lt_z}
use Rattle.std.proofs.lemmas.Bool.{cases_lt}
use Rattle.geo_exact.specs.Position.{Position}
use Rattle.geo_exact.specs.Segment.{HaveCommonLocation, IsOnSegment, location}
use Rattle.geo_exact.proofs.Toolbox.{by_parts, var, num, ◌⊞◌, ◌⊟◌, ◌⊠◌, positive-positive}
use Rattle.cad_map.specs.Crossings.{HaveOnlyStart}

-- l is n times a location of the segment ab
pub record IsAlong (n : ℕ) (a b l : Position) : Type 0 where
  pub s : ℕ
  pub within : s ≤ n
  pub is : location n a s b ≡ l

-- two positions with the same coordinates
same_position : (a b : Position) → a.x ≡ b.x → a.y ≡ b.y → a ≡ b
same_position a b ex ey = λ i. record { x = ex i; y = ey i }

other_way : (r s x y : ℤ) → (r +ℤ s) *ℤ y +ℤ r *ℤ (x -ℤ y) ≡ (r +ℤ s) *ℤ x +ℤ s *ℤ (y -ℤ x)
other_way r s x y = by_parts (r ∷ s ∷ x ∷ y ∷ []) ((var 0 ⊞ var 1) ⊠ var 3 ⊞ var 0 ⊠ (var 2 ⊟ var 3)) ((var 0 ⊞ var 1) ⊠ var 2 ⊞ var 1 ⊠ (var 3 ⊟ var 2)) (omega arith)

-- the segment in the other direction has the same locations
pub along-turned : (n : ℕ) (a b l : Position) → IsAlong n a b l → IsAlong n b a l
along-turned n a b l h =
    let r = n - h.s in
    let le = h.within in
    let rs : n ≡ r + h.s = omega arith in
    let way = λ (x y : ℤ). (λ i. pos (rs i) *ℤ y +ℤ pos r *ℤ (x -ℤ y)) ∙ other_way (pos r) (pos h.s) x y ∙ (λ i. pos (sym rs i) *ℤ x +ℤ pos h.s *ℤ (y -ℤ x)) in
    record { s = r; within = omega arith; is = same_position (location n b r a) (location n a h.s b) (way a.x b.x) (way a.y b.y) ∙ h.is }

-- ---- Common locations

module _ (a b c d : Position) where
  -- n times the common location
  abbrev pub times : HaveCommonLocation a b c d → Position
  times common = location common.n a common.s b

  pub on_first : (common : HaveCommonLocation a b c d) → IsAlong common.n a b (times common)
  on_first common = record { s = common.s; within = common.on_first; is = refl }

  pub on_second : (common : HaveCommonLocation a b c d) → IsAlong common.n c d (times common)
  on_second common = record { s = common.t; within = common.on_second; is = sym common.same }

  abbrev pub common_at : (n : ℕ) (l : Position) → 0 < n → IsAlong n a b l → IsAlong n c d l → HaveCommonLocation a b c d
  common_at n l some first second = record { n = n; s = first.s; t = second.s; some = some; on_first = first.within; on_second = second.within; same = first.is ∙ sym second.is }

-- ---- From one position

-- without n times the start on both sides
without_start : (x y z : ℤ) → x +ℤ y ≡ x +ℤ z → y ≡ z
without_start x y z h = omega (arith, ints)

-- in one coordinate: s parts of the way to a, of n, are t parts of the way to b, so s parts of t lead to b
shorter : (n s t v a b : ℤ) → n *ℤ v +ℤ s *ℤ (a -ℤ v) ≡ n *ℤ v +ℤ t *ℤ (b -ℤ v) → t *ℤ v +ℤ s *ℤ (a -ℤ v) ≡ t *ℤ b +ℤ pos 0 *ℤ (b -ℤ b)
shorter n s t v a b h =
    ap (λ (z : ℤ). t *ℤ v +ℤ z) (without_start (n *ℤ v) (s *ℤ (a -ℤ v)) (t *ℤ (b -ℤ v)) h)
    ∙ by_parts (t ∷ v ∷ b ∷ []) (var 0 ⊠ var 1 ⊞ var 0 ⊠ (var 2 ⊟ var 1)) (var 0 ⊠ var 2 ⊞ num (pos 0) ⊠ (var 2 ⊟ var 2)) (omega arith)

-- n times the end b, as a location of the segment from v to b
longer : (n v b : ℤ) → n *ℤ v +ℤ n *ℤ (b -ℤ v) ≡ n *ℤ b +ℤ pos 0 *ℤ (b -ℤ b)
longer n v b = by_parts (n ∷ v ∷ b ∷ []) (var 0 ⊠ var 1 ⊞ var 0 ⊠ (var 2 ⊟ var 1)) (var 0 ⊠ var 2 ⊞ num (pos 0) ⊠ (var 2 ⊟ var 2)) (omega arith)

-- any part of the way from b to b
still : (n t b : ℤ) → n *ℤ b +ℤ t *ℤ (b -ℤ b) ≡ n *ℤ b +ℤ pos 0 *ℤ (b -ℤ b)
still n t b = by_parts (n ∷ t ∷ b ∷ []) (var 0 ⊠ var 2 ⊞ var 1 ⊠ (var 2 ⊟ var 2)) (var 0 ⊠ var 2 ⊞ num (pos 0) ⊠ (var 2 ⊟ var 2)) (omega arith)

-- none of the way from v, to a or to b
no_way : (n v a b : ℤ) → n *ℤ v +ℤ pos 0 *ℤ (a -ℤ v) ≡ n *ℤ v +ℤ pos 0 *ℤ (b -ℤ v)
no_way n v a b = by_parts (n ∷ v ∷ a ∷ b ∷ []) (var 0 ⊠ var 1 ⊞ num (pos 0) ⊠ (var 2 ⊟ var 1)) (var 0 ⊠ var 1 ⊞ num (pos 0) ⊠ (var 3 ⊟ var 1)) (omega arith)

-- s parts of the way to a are t parts of the way to b, with s at most t: then b lies on the segment to a
one_ends_first : (v a b : Position) (n s t : ℕ) → location n v s a ≡ location n v t b → 0 < t → s ≤ t → IsOnSegment v a b
one_ends_first v a b n s t same some le = record {
  n = t;
  s = s;
  t = 0;
  some = some;
  on_first = le;
  on_second = omega arith;
  same = same_position (location t v s a) (location t b 0 b)
      (shorter (pos n) (pos s) (pos t) v.x a.x b.x (ap (λ (p : Position). p.x) same))
      (shorter (pos n) (pos s) (pos t) v.y a.y b.y (ap (λ (p : Position). p.y) same));
}

not_less : (n x y : ℤ) → pos 0 <ℤ n → n *ℤ x +ℤ pos 0 *ℤ (x -ℤ x) ≡ n *ℤ y +ℤ pos 0 *ℤ (y -ℤ y) → x <ℤ y → ⊥
not_less n x y some h lt =
    let k = positive-positive n (y -ℤ x) some (omega (arith, ints)) in
    let e = by_parts (n ∷ x ∷ y ∷ []) (var 0 ⊠ (var 2 ⊟ var 1)) ((var 0 ⊠ var 2 ⊞ num (pos 0) ⊠ (var 2 ⊟ var 2)) ⊟ (var 0 ⊠ var 1 ⊞ num (pos 0) ⊠ (var 1 ⊟ var 1))) (omega arith) in
    difference (n *ℤ (y -ℤ x)) (n *ℤ x +ℤ pos 0 *ℤ (x -ℤ x)) (n *ℤ y +ℤ pos 0 *ℤ (y -ℤ y)) e h k
  where
    difference : (d p q : ℤ) → d ≡ q -ℤ p → p ≡ q → pos 0 <ℤ d → ⊥
    difference d p q e h k = omega (arith, ints)

-- n times a position tells the position
same_multiple : (n : ℕ) (a b : Position) → 0 < n → location n a 0 a ≡ location n b 0 b → a ≡ b
same_multiple n a b some h = same_position a b (coordinate a.x b.x (ap (λ (p : Position). p.x) h)) (coordinate a.y b.y (ap (λ (p : Position). p.y) h))
  where
    coordinate : (x y : ℤ) → pos n *ℤ x +ℤ pos 0 *ℤ (x -ℤ x) ≡ pos n *ℤ y +ℤ pos 0 *ℤ (y -ℤ y) → x ≡ y
    coordinate x y e = by_lt_z x y (λ lt. absurd (not_less (pos n) x y (omega (arith, ints)) e lt)) (λ ge. by_lt_z y x (λ lt. absurd (not_less (pos n) y x (omega (arith, ints)) (sym e) lt)) (λ le. omega (arith, ints)))

module _ (v a b : Position) where
  -- where neither has the other's end they have only the start in common
  start_only : ¬ IsOnSegment v a b → ¬ IsOnSegment v b a → HaveOnlyStart v a b
  start_only b_off a_off common = by common.s common.t refl refl
    where
      n : ℕ
      n = common.n

      by : (s t : ℕ) → common.s ≡ s → common.t ≡ t → location n v common.s a ≡ location n v 0 v
      by zero t is_s is_t = ap (λ (s : ℕ). location n v s a) is_s ∙ same_position (location n v 0 a) (location n v 0 v) (no_way (pos n) v.x a.x v.x) (no_way (pos n) v.y a.y v.y)
      by (suc s) t is_s is_t = elim (cases_lt common.s common.t) [
        | inl lt ↦ absurd (b_off (one_ends_first v a b n common.s common.t common.same (omega arith) (omega arith)))
        | inr ge ↦ absurd (a_off (one_ends_first v b a n common.t common.s (sym common.same) (omega arith) ge))
      ]

  -- the end of one on the other is a second common location
  end_on_other : ¬ (b ≡ v) → IsOnSegment v a b → ¬ HaveOnlyStart v a b
  end_on_other away on only = away (same_multiple on.n b v on.some (sym at_end ∙ only common))
    where
      at_end : location on.n v on.s a ≡ location on.n b 0 b
      at_end = on.same ∙ same_position (location on.n b on.t b) (location on.n b 0 b) (still (pos on.n) (pos on.t) b.x) (still (pos on.n) (pos on.t) b.y)

      common : HaveCommonLocation v a v b
      common = record {
        n = on.n;
        s = on.s;
        t = on.n;
        some = on.some;
        on_first = on.on_first;
        on_second = le_refl on.n;
        same = at_end ∙ sym (same_position (location on.n v on.n b) (location on.n b 0 b) (longer (pos on.n) v.x b.x) (longer (pos on.n) v.y b.y));
      }

  only_start-exchanged : HaveOnlyStart v b a → HaveOnlyStart v a b
  only_start-exchanged only common = common.same ∙ only (record { n = common.n; s = common.t; t = common.s; some = common.some; on_first = common.on_second; on_second = common.on_first; same = sym common.same })

-- two segments from one position have no other common location exactly where neither has the other's end
pub only_start-is : (v a b : Position) → ¬ (a ≡ v) → ¬ (b ≡ v) → HaveOnlyStart v a b ↔ ((¬ IsOnSegment v a b) × (¬ IsOnSegment v b a))
only_start-is v a b a_away b_away = (
  (λ only. ((λ on. end_on_other v a b b_away on only), (λ on. end_on_other v b a a_away on (only_start-exchanged v b a only)))),
  (λ off. start_only v a b off.0 off.1),
)
