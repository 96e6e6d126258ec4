-- The rings of a face stand together in a map's list.
use Rattle.std.proofs.Common.{◌≡◌, ℕ, zero, suc, ◌+◌, ◌-◌, ◌<◌, ◌≤◌, inl, inr, refl, sym, ap, subst, ◌∙◌, List, [], ◌∷◌, map, get_or, Bool, true, false, true≢false, nat_eq, nat_lt, nat_le, length, arith}
use Rattle.std.proofs.lemmas.Bool.Decides.{nat_tests}
use Rattle.std.proofs.lemmas.List.Elements.{filter_agree, Contains-get_or}
use Rattle.std.specs.Prelude.{◌==◌, ◌&&◌, ◌||◌, slice_range}
use Rattle.std.specs.List.Sorted.{IsNonDecreasingBy, IsPartitionPoint}
use Rattle.cad_rows.specs.declared.names.Face.{Face}
use Rattle.cad_rings.specs.Canonical.{comes_first}
use Rattle.cad_map.specs.declared.boundary.Boundary.{Boundary}
use Rattle.cad_map.specs.Boundaries.{is_face, face_place, boundary_comes_first, canonical_order, EndsBelow, BeginsFrom, IsFirstFrom}
use Rattle.cad_map.specs.Map.{rings_at}
use Rattle.cad_map.proofs.Lists.EachElement.{All-Contains}
use Rattle.cad_map.proofs.Boundaries.CanonicalOrder.{InOrder, InOrder-canonical_order, is_face-place}
use Rattle.cad_map.proofs.Lists.Runs.{AreBounds, filter-bounds}

-- the place of a boundary's face
abbrev pub place_of : Boundary → ℕ
place_of b = face_place b.face

places-rise : (a b : Boundary) → boundary_comes_first a b ≡ true → place_of a ≤ place_of b
places-rise a b h = by (nat_lt (place_of a) (place_of b)) (nat_eq (place_of a) (place_of b)) refl refl h
  where
    by : (s t : Bool) → nat_lt (place_of a) (place_of b) ≡ s → nat_eq (place_of a) (place_of b) ≡ t
        → (nat_lt (place_of a) (place_of b) || (nat_eq (place_of a) (place_of b) && comes_first a.ring b.ring)) ≡ true
        → place_of a ≤ place_of b
    by true t hs ht h = grind (arith, nat_tests)
    by false true hs ht h = grind (arith, nat_tests)
    by false false hs ht h = absurd (true≢false (sym h ∙ (λ i. hs i || (ht i && comes_first a.ring b.ring))))

rising : (bs : List Boundary) → InOrder bs → IsNonDecreasingBy place_of bs
rising [] order i j d le lt = absurd (omega arith)
rising (b ∷ bs) order zero zero d le lt = omega arith
rising (b ∷ bs) order zero (suc j) d le lt =
    places-rise b (get_or bs j d)
    (All-Contains (λ c. boundary_comes_first b c ≡ true) bs (get_or bs j d) order.0 (Contains-get_or bs j d (omega arith)))
rising (b ∷ bs) order (suc i) zero d le lt = absurd (omega arith)
rising (b ∷ bs) order (suc i) (suc j) d le lt = rising bs order.1 i j d (omega arith) (omega arith)

-- boundaries in canonical order are in order of their faces
pub canonical_order-rises : (bs : List Boundary) → canonical_order bs ≡ bs → IsNonDecreasingBy place_of bs
canonical_order-rises bs is = rising bs (subst InOrder is (InOrder-canonical_order bs))

-- and those of one face stand between two places
pub rings-run : (f : Face) (bs : List Boundary) (low high : ℕ) → AreBounds place_of bs (face_place f) low high
    → map (λ b. b.ring) (slice_range bs low high) ≡ rings_at f bs
rings-run f bs low high bounds =
    ap (map (λ (b : Boundary). b.ring))
    (sym (filter-bounds place_of bs (face_place f) low high bounds)
    ∙ filter_agree (λ b. place_of b == face_place f) (λ b. is_face f b.face) same bs)
  where
    exchanged : (m n : ℕ) → nat_eq m n ≡ nat_eq n m
    exchanged m n = grind (arith, nat_tests)

    same : (b : Boundary) → nat_eq (place_of b) (face_place f) ≡ is_face f b.face
    same b = exchanged (place_of b) (face_place f) ∙ sym (is_face-place f b.face)

-- a place parts boundaries in order where the one before it is below a bound, and the one at it isn't
module _ (bs : List Boundary) (rises : IsNonDecreasingBy place_of bs) (bound at : ℕ) where
  pub first-from : at ≤ length bs → EndsBelow bs bound at → BeginsFrom bs bound at → IsFirstFrom bs bound at
  first-from within before after = (below before, from after)
    where
      below : EndsBelow bs bound at → (k : ℕ) (d : Boundary) → 0 ≤ k → k < at → nat_lt (place_of (get_or bs k d)) bound ≡ true
      below (inl none) k d low high = absurd (omega (arith, none, high))
      below (inr less) k d low high =
          let up = rises k (at - 1) d (omega (arith, high)) (omega (arith, high, within)) in
          let last = less d in
          grind (arith, nat_tests)

      from : BeginsFrom bs bound at → (k : ℕ) (d : Boundary) → at ≤ k → k < length bs → nat_lt (place_of (get_or bs k d)) bound ≡ false
      from (inl none) k d low high = absurd (omega (arith, none, low, high))
      from (inr most) k d low high =
          let up = rises at k d low high in
          let first = most d in
          grind (arith, nat_tests)

-- and those up to a number are those below the next one
pub up-to : (bs : List Boundary) (n at : ℕ) → IsFirstFrom bs (n + 1) at
    → IsPartitionPoint (λ b. nat_le (place_of b) n ≡ true) (λ b. nat_le (place_of b) n ≡ false) bs at
up-to bs n at first = (
  λ k d low high. same (place_of (get_or bs k d)) ∙ first.0 k d low high,
  λ k d low high. same (place_of (get_or bs k d)) ∙ first.1 k d low high,
)
  where
    same : (m : ℕ) → nat_le m n ≡ nat_lt m (n + 1)
    same m = grind (arith, nat_tests)
