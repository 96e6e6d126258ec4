-- Lists in another order, and what is summed over them.
use Rattle.std.proofs.Common.{◌≡◌, zero, suc, refl, sym, ap, ◌∙◌, subst, List, [], ◌∷◌, ◌++◌, append_assoc, map, ◌+ℤ◌, neg_ℤ, pos, arith}
use Rattle.std.proofs.lemmas.Int.{ints}
use Rattle.std.proofs.lemmas.List.{map-append}
use Rattle.std.proofs.lemmas.List.Sums.{sum_by-cons}
use Rattle.std.proofs.lemmas.List.Sorted.{IsPermutation-refl, IsPermutation-cons, IsPermutation-sym, IsPermutation-trans, IsPermutation-append_left, IsPermutation-append_right, IsPermutation-append_comm, IsPermutation-middle, sum_by-IsPermutation}
use Rattle.std.specs.Prelude.{IsPermutation, sum_by, flat_map, ◌+◌, ℕ, Bool, true, false, nat_le, if◌then◌else◌}
use borrow.Author.Differences.{up, down, same_in, sum_is_lem}
use Rattle.geo_exact.specs.Position.{Position}
use Rattle.geo_exact.specs.Measure.{Measure, IsOdd, sum_over}
use Rattle.geo_exact.proofs.CallerLemmas.{sum_over-append}
use Rattle.cad_rings.specs.Cycle.{Side, opposite, Corner, corner_back, placed}
use Rattle.cad_rings.specs.Surgery.{both_ways, corners_both_ways}

module _ {A : Type 0} where
  pub permuted_as : (xs xs' ys ys' : List A) → xs ≡ xs' → ys ≡ ys' → IsPermutation xs' ys' → IsPermutation xs ys
  permuted_as xs xs' ys ys' ex ey h = subst (λ (l : List A). IsPermutation xs l) (sym ey) (subst (λ (l : List A). IsPermutation l ys') (sym ex) h)

  -- the second of four lists may go to the end
  pub second_last : (a b c d : List A) → IsPermutation ((a ++ b) ++ (c ++ d)) ((a ++ c) ++ (d ++ b))
  second_last a b c d =
      permuted_as ((a ++ b) ++ (c ++ d)) (a ++ (b ++ (c ++ d))) ((a ++ c) ++ (d ++ b)) (a ++ ((c ++ d) ++ b)) (append_assoc a b (c ++ d)) (simp append_assoc)
      (IsPermutation-append_right a (b ++ (c ++ d)) ((c ++ d) ++ b) (IsPermutation-append_comm b (c ++ d)))

module _ {A : Type 0} (back : A → A) where
  -- each with its counterpart: all of them, and their counterparts
  pub with_counterparts : (xs : List A) → IsPermutation (flat_map (λ x. x ∷ back x ∷ []) xs) (xs ++ map back xs)
  with_counterparts [] = IsPermutation-refl []
  with_counterparts (x ∷ xs) =
      let both = flat_map (λ x. x ∷ back x ∷ []) xs in
      IsPermutation-cons x (back x ∷ both) (xs ++ back x ∷ map back xs)
      (IsPermutation-trans (back x ∷ both) (back x ∷ (xs ++ map back xs)) (xs ++ back x ∷ map back xs)
      (IsPermutation-cons (back x) both (xs ++ map back xs) (with_counterparts xs))
      (IsPermutation-sym (xs ++ back x ∷ map back xs) (back x ∷ (xs ++ map back xs)) (IsPermutation-middle xs (back x) (map back xs))))

-- every side and its opposite: the sides, and their opposites
pub both_ways-apart : (sides : List Side) → IsPermutation (both_ways sides) (sides ++ map opposite sides)
both_ways-apart sides = with_counterparts opposite sides

-- every corner both ways: the corners, and the corners back
pub corners_both_ways-apart : (corners : List Corner) → IsPermutation (corners_both_ways corners) (corners ++ map corner_back corners)
corners_both_ways-apart corners = with_counterparts corner_back corners

-- ---- Pieces in any order

module _ {A : Type 0} (pieces : List (List A)) where
  -- the piece with this number
  abbrev pub piece : List (List A) → ℕ → List A
  piece [] n = []
  piece (p ∷ ps) zero = p
  piece (p ∷ ps) (suc n) = piece ps n

  -- the pieces with these numbers, one after the other
  abbrev pub laid : List ℕ → List A
  laid ns = flat_map (piece pieces) ns

  abbrev put : ℕ → List ℕ → List ℕ
  put n [] = n ∷ []
  put n (m ∷ ms) = if nat_le n m then n ∷ m ∷ ms else m ∷ put n ms

  -- the numbers in order
  abbrev pub in_order : List ℕ → List ℕ
  in_order [] = []
  in_order (n ∷ ns) = put n (in_order ns)

  laid-put : (n : ℕ) (ms : List ℕ) → IsPermutation (piece pieces n ++ laid ms) (laid (put n ms))
  laid-put n [] = IsPermutation-refl (piece pieces n ++ [])
  laid-put n (m ∷ ms) = go (nat_le n m) (laid-put n ms)
    where
      go : (t : Bool) → IsPermutation (piece pieces n ++ laid ms) (laid (put n ms)) → IsPermutation (piece pieces n ++ laid (m ∷ ms)) (laid (if t then n ∷ m ∷ ms else m ∷ put n ms))
      go true rest = IsPermutation-refl (piece pieces n ++ laid (m ∷ ms))
      go false rest =
          let P = piece pieces n in
          let Q = piece pieces m in
          IsPermutation-trans (P ++ (Q ++ laid ms)) (Q ++ (P ++ laid ms)) (Q ++ laid (put n ms))
          (permuted_as (P ++ (Q ++ laid ms)) ((P ++ Q) ++ laid ms) (Q ++ (P ++ laid ms)) ((Q ++ P) ++ laid ms) (sym (append_assoc P Q (laid ms))) (sym (append_assoc Q P (laid ms)))
          (IsPermutation-append_left (laid ms) (P ++ Q) (Q ++ P) (IsPermutation-append_comm P Q)))
          (IsPermutation-append_right Q (P ++ laid ms) (laid (put n ms)) rest)

  laid-in_order : (ns : List ℕ) → IsPermutation (laid ns) (laid (in_order ns))
  laid-in_order [] = IsPermutation-refl []
  laid-in_order (n ∷ ns) =
      IsPermutation-trans (piece pieces n ++ laid ns) (piece pieces n ++ laid (in_order ns)) (laid (in_order (n ∷ ns)))
      (IsPermutation-append_right (piece pieces n) (laid ns) (laid (in_order ns)) (laid-in_order ns)) (laid-put n (in_order ns))

  -- the same pieces, laid in two ways
  pub shuffled : (ms ns : List ℕ) → in_order ms ≡ in_order ns → IsPermutation (laid ms) (laid ns)
  shuffled ms ns e =
      IsPermutation-trans (laid ms) (laid (in_order ms)) (laid ns) (laid-in_order ms)
      (subst (λ (l : List ℕ). IsPermutation (laid l) (laid ns)) (sym e) (IsPermutation-sym (laid ns) (laid (in_order ns)) (laid-in_order ns)))

-- ---- Sums

-- the sum over sides, as a difference of naturals
as_difference : (f : Measure) (position : ℕ → Position) (sides : List Side)
    → up (sum_over f (placed position sides)) + sum_by (λ (s : Side). down (f (position s.0) (position s.1))) sides
    ≡ sum_by (λ (s : Side). up (f (position s.0) (position s.1))) sides + down (sum_over f (placed position sides))
as_difference f position [] = refl
as_difference f position (s ∷ sides) =
    let z = f (position s.0) (position s.1) in
    let h = as_difference f position sides in
    let e1 = sum_by-cons (λ (t : Side). down (f (position t.0) (position t.1))) s sides in
    let e2 = sum_by-cons (λ (t : Side). up (f (position t.0) (position t.1))) s sides in
    omega (arith, sum_is_lem z (sum_over f (placed position sides)), h, e1, e2)

-- sides in another order have the same sum
pub sum-permuted : (f : Measure) (position : ℕ → Position) (xs ys : List Side) → IsPermutation xs ys → sum_over f (placed position xs) ≡ sum_over f (placed position ys)
sum-permuted f position xs ys p =
    let hx = as_difference f position xs in
    let hy = as_difference f position ys in
    let e1 = sum_by-IsPermutation (λ (s : Side). down (f (position s.0) (position s.1))) xs ys p in
    let e2 = sum_by-IsPermutation (λ (s : Side). up (f (position s.0) (position s.1))) xs ys p in
    same_in (sum_over f (placed position xs)) (sum_over f (placed position ys)) (omega arith)

pub sum-append : (f : Measure) (position : ℕ → Position) (xs ys : List Side)
    → sum_over f (placed position (xs ++ ys)) ≡ sum_over f (placed position xs) +ℤ sum_over f (placed position ys)
sum-append f position xs ys =
    ap (sum_over f) (map-append (λ (s : Side). (position s.0, position s.1)) xs ys) ∙ sum_over-append f (placed position xs) (placed position ys)

-- opposite sides have the opposite sum
pub sum-opposite : (f : Measure) → IsOdd f → (position : ℕ → Position) (sides : List Side)
    → sum_over f (placed position (map opposite sides)) ≡ neg_ℤ (sum_over f (placed position sides))
sum-opposite f odd position [] = refl
sum-opposite f odd position (s ∷ sides) =
    let e = odd (position s.0) (position s.1) in
    let h = sum-opposite f odd position sides in
    omega (arith, ints, e, h)

-- a side and its opposite cancel
pub sum-both_ways : (f : Measure) → IsOdd f → (position : ℕ → Position) (sides : List Side) → sum_over f (placed position (both_ways sides)) ≡ pos 0
sum-both_ways f odd position [] = refl
sum-both_ways f odd position (s ∷ sides) =
    let e = odd (position s.0) (position s.1) in
    let h = sum-both_ways f odd position sides in
    omega (arith, ints, e, h)
