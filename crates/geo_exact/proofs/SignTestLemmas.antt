-- The test by signs answers true exactly where two segments have a common location.
use Rattle.std.proofs.Common.{◌≡◌, ℤ, pos, ◌<ℤ◌, Bool, true, false, arith, refl, [], ◌∷◌}
use Rattle.std.specs.Prelude.{not, ◌&&◌, int_lt, ◌↔◌}
use Rattle.std.proofs.lemmas.Int.{ints, by_lt_z}
use Rattle.geo_exact.specs.Position.{Position}
use Rattle.geo_exact.specs.Orientation.{orientation}
use Rattle.geo_exact.specs.Segment.{HaveCommonLocation, IsOnSegment}
use Rattle.geo_exact.specs.SignTest.{straddles, overlaps, boxes_overlap, passes_signs}
use Rattle.geo_exact.proofs.Meeting.{Straddle, Overlap, signs_from_location, location_from_signs}
use Rattle.geo_exact.proofs.Polynomial.{by_parts}
use Rattle.geo_exact.proofs.Polynomial.Polynomial.{var, num, ◌⊟◌, ◌⊠◌}

straddle_from : (p q : ℤ) → (not (int_lt (pos 0) p && int_lt (pos 0) q) && not (int_lt p (pos 0) && int_lt q (pos 0))) ≡ true → Straddle p q
straddle_from p q h = record { not_left = λ k l. grind (arith, ints); not_right = λ k l. grind (arith, ints) }

straddle_to : (p q : ℤ) → (pos 0 <ℤ p → pos 0 <ℤ q → ⊥) → (p <ℤ pos 0 → q <ℤ pos 0 → ⊥) → (not (int_lt (pos 0) p && int_lt (pos 0) q) && not (int_lt p (pos 0) && int_lt q (pos 0))) ≡ true
straddle_to p q h k = grind (arith, ints)

pub overlap_from : (a b c d : ℤ) → overlaps a b c d ≡ true → Overlap a b c d
overlap_from a b c d h = record { not_below = λ p q r s. grind (arith, ints); not_above = λ p q r s. grind (arith, ints) }

overlap_to : (a b c d : ℤ) → (a <ℤ c → a <ℤ d → b <ℤ c → b <ℤ d → ⊥) → (c <ℤ a → d <ℤ a → c <ℤ b → d <ℤ b → ⊥) → overlaps a b c d ≡ true
overlap_to a b c d h k = grind (arith, ints)

pub and_left : (s t : Bool) → (s && t) ≡ true → s ≡ true
and_left true t h = refl
and_left false t h = h

pub and_right : (s t : Bool) → (s && t) ≡ true → t ≡ true
and_right true t h = h
and_right false t h = absurd (false_is_not_true h)
  where
    false_is_not_true : false ≡ true → ⊥
    false_is_not_true e = cc

both : (s t : Bool) → s ≡ true → t ≡ true → (s && t) ≡ true
both true t h k = k
both false t h k = h

-- The test answers true exactly where the segments have a common location.
pub passes_signs-is : (a b c d : Position) → (passes_signs a b c d ≡ true) ↔ HaveCommonLocation a b c d
passes_signs-is a b c d =
    let s1 = straddles c d a b in let s2 = straddles a b c d in let o1 = overlaps a.x b.x c.x d.x in let o2 = overlaps a.y b.y c.y d.y in (
      (λ h.
          let h2 = and_left (s1 && s2) (o1 && o2) h in let h3 = and_right (s1 && s2) (o1 && o2) h in
          location_from_signs a b c d (record {
            first = straddle_from (orientation c d a) (orientation c d b) (and_left s1 s2 h2);
            second = straddle_from (orientation a b c) (orientation a b d) (and_right s1 s2 h2);
            in_x = overlap_from a.x b.x c.x d.x (and_left o1 o2 h3);
            in_y = overlap_from a.y b.y c.y d.y (and_right o1 o2 h3);
          })),
      (λ l.
          let p = signs_from_location a b c d l in
          both (s1 && s2) (o1 && o2)
          (both s1 s2 (straddle_to (orientation c d a) (orientation c d b) p.first.not_left p.first.not_right) (straddle_to (orientation a b c) (orientation a b d) p.second.not_left p.second.not_right))
          (both o1 o2 (overlap_to a.x b.x c.x d.x p.in_x.not_below p.in_x.not_above) (overlap_to a.y b.y c.y d.y p.in_y.not_below p.in_y.not_above))),
    )

-- from a position to itself nothing lies on the left or on the right
no_side : (q c : Position) → orientation q q c ≡ pos 0
no_side q c =
    let QX = var 0 in let QY = var 1 in let CX = var 2 in let CY = var 3 in
    by_parts (q.x ∷ q.y ∷ c.x ∷ c.y ∷ []) ((QX ⊟ QX) ⊠ (CY ⊟ QY) ⊟ (QY ⊟ QY) ⊠ (CX ⊟ QX)) (num (pos 0)) (omega arith)

-- two positions on a line aren't both on its left, nor both on its right
on_line : (o p : ℤ) → o ≡ pos 0 → p ≡ pos 0 → Straddle o p
on_line o p h k = record { not_left = λ l m. omega (arith, ints); not_right = λ l m. omega (arith, ints) }

-- A position lies on a segment exactly where it lies in its box and on its line.
pub on_segment-is : (a b q : Position) → ((boxes_overlap a b q q ≡ true) × (orientation a b q ≡ pos 0)) ↔ IsOnSegment a b q
on_segment-is a b q =
    let o1 = overlaps a.x b.x q.x q.x in let o2 = overlaps a.y b.y q.y q.y in let o = orientation a b q in (
      (λ h. location_from_signs a b q q (record {
        first = on_line (orientation q q a) (orientation q q b) (no_side q a) (no_side q b);
        second = on_line o o h.1 h.1;
        in_x = overlap_from a.x b.x q.x q.x (and_left o1 o2 h.0);
        in_y = overlap_from a.y b.y q.y q.y (and_right o1 o2 h.0);
      })),
      (λ l.
          let p = signs_from_location a b q q l in
          let in_x = overlap_to a.x b.x q.x q.x p.in_x.not_below p.in_x.not_above in
          let in_y = overlap_to a.y b.y q.y q.y p.in_y.not_below p.in_y.not_above in
          (both o1 o2 in_x in_y, none o p.second)),
    )
  where
    none : (o : ℤ) → Straddle o o → o ≡ pos 0
    none o s =
        by_lt_z (pos 0) o (λ l. absurd (s.not_left l l))
        (λ ge. by_lt_z o (pos 0) (λ r. absurd (s.not_right r r)) (λ le. omega (arith, ints)))
