-- A point put on a side of a ring: each such side becomes two.
use Rattle.std.proofs.Common.{◌≡◌, ℕ, suc, ◌+◌, refl, sym, ◌∙◌, ap, subst, List, [], ◌∷◌, ◌++◌, length, take, drop, Bool, true, false, ◌⊎◌, inl, inr, cond, arith}
use Rattle.std.proofs.lemmas.List.{append-nil, take-append-drop}
use Rattle.std.proofs.lemmas.List.Concat.{flat_map-append}
use Rattle.std.proofs.lemmas.List.Sums.{sum_by-cons}
use Rattle.std.proofs.lemmas.List.Sorted.{IsPermutation-cons, IsPermutation-sym, IsPermutation-trans, IsPermutation-middle}
use Rattle.std.proofs.lemmas.Bool.Decides.{eqb_tells}
use Rattle.std.specs.Prelude.{IsPermutation, if◌then◌else◌, flat_map, count_by, ◌==◌, ◌&&◌}
use Rattle.cad_rings.specs.Cycle.{Ring, Side, is_side, sides_along, sides_of, IsSameRing, times_along}
use Rattle.cad_rings.specs.Surgery.{put_on, halves_by}
use Rattle.cad_rings.proofs.Permuted.{permuted_as}
use Rattle.cad_rings.proofs.SideLemmas.{sides_of-turned, length-sides_of}
use Rattle.cad_rings.proofs.Turned.{IsSameRing-append}

-- ---- Tests of sides

pub is_side-same : (s t : Side) → is_side s t ≡ true → s ≡ t
is_side-same s t h = both (s.0 == t.0) (s.1 == t.1) (eqb_tells s.0 t.0) (eqb_tells s.1 t.1) h
  where
    both : (x y : Bool) → ((x ≡ true) × (s.0 ≡ t.0)) ⊎ ((x ≡ false) × (s.0 ≡ t.0 → ⊥)) → ((y ≡ true) × (s.1 ≡ t.1)) ⊎ ((y ≡ false) × (s.1 ≡ t.1 → ⊥)) → (x && y) ≡ true → s ≡ t
    both true true (inl p) (inl q) k = λ i. (p.1 i, q.1 i)
    both true true (inl p) (inr q) k = let e = q.0 in cc
    both true true (inr p) q k = let e = p.0 in cc
    both true false p q k = cc
    both false y p q k = cc

-- of the sides none is s, and the first of them least of all
pub none_first : (s t : Side) (sides : List Side) → count_by (is_side s) (t ∷ sides) ≡ 0 → (is_side s t ≡ false) × (count_by (is_side s) sides ≡ 0)
none_first s t sides h = go (is_side s t) (sum_by-cons (λ (u : Side). cond (is_side s u) 1 0) t sides)
  where
    go : (v : Bool) → count_by (is_side s) (t ∷ sides) ≡ cond v 1 0 + count_by (is_side s) sides → (v ≡ false) × (count_by (is_side s) sides ≡ 0)
    go true e = absurd (omega arith)
    go false e = (refl, omega arith)

-- the first is s and no other, or one of the others is
pub once_first : (s t : Side) (sides : List Side) → count_by (is_side s) (t ∷ sides) ≡ 1
    → ((is_side s t ≡ true) × (count_by (is_side s) sides ≡ 0)) ⊎ ((is_side s t ≡ false) × (count_by (is_side s) sides ≡ 1))
once_first s t sides h = go (is_side s t) (sum_by-cons (λ (u : Side). cond (is_side s u) 1 0) t sides)
  where
    go : (v : Bool) → count_by (is_side s) (t ∷ sides) ≡ cond v 1 0 + count_by (is_side s) sides → ((v ≡ true) × (count_by (is_side s) sides ≡ 0)) ⊎ ((v ≡ false) × (count_by (is_side s) sides ≡ 1))
    go true e = inl (refl, omega arith)
    go false e = inr (refl, omega arith)

-- ---- The sides

module _ (s : Side) (p : ℕ) where
  abbrev put : Bool → List ℕ
  put t = if t then p ∷ [] else []

  -- the points after a
  points_after : ℕ → List ℕ → ℕ → List ℕ
  points_after a [] z = put (is_side s (a, z))
  points_after a (x ∷ xs) z = put (is_side s (a, x)) ++ x ∷ points_after x xs z

  abbrev pub point_or_two : Side → List ℕ
  point_or_two t = if is_side s t then t.0 ∷ p ∷ [] else t.0 ∷ []

  a_first : (t : Bool) (a : ℕ) (rest : List ℕ) → (if t then a ∷ p ∷ [] else a ∷ []) ++ rest ≡ a ∷ put t ++ rest
  a_first true a rest = refl
  a_first false a rest = refl

  put_along : (a : ℕ) (xs : List ℕ) (z : ℕ) → flat_map point_or_two (sides_along a xs z) ≡ a ∷ points_after a xs z
  unfolding points_after
  put_along a [] z = a_first (is_side s (a, z)) a [] ∙ ap (λ (l : List ℕ). a ∷ l) (append-nil (put (is_side s (a, z))))
  put_along a (x ∷ xs) z = ap (λ (l : List ℕ). point_or_two (a, x) ++ l) (put_along x xs z) ∙ a_first (is_side s (a, x)) a (x ∷ points_after x xs z)

  last_halves : (t : Bool) (a z : ℕ) → sides_along a (put t) z ≡ (if t then (a, p) ∷ (p, z) ∷ [] else (a, z) ∷ []) ++ []
  last_halves true a z = refl
  last_halves false a z = refl

  more_halves : (t : Bool) (a x : ℕ) (rest : List ℕ) (z : ℕ) → sides_along a (put t ++ x ∷ rest) z ≡ (if t then (a, p) ∷ (p, x) ∷ [] else (a, x) ∷ []) ++ sides_along x rest z
  more_halves true a x rest z = refl
  more_halves false a x rest z = refl

  halves_along : (a : ℕ) (xs : List ℕ) (z : ℕ) → sides_along a (points_after a xs z) z ≡ flat_map (halves_by s p) (sides_along a xs z)
  unfolding points_after
  halves_along a [] z = last_halves (is_side s (a, z)) a z
  halves_along a (x ∷ xs) z = more_halves (is_side s (a, x)) a x (points_after x xs z) z ∙ ap (λ (l : List Side). halves_by s p (a, x) ++ l) (halves_along x xs z)

  pub sides_of-put_on : (ring : Ring) → sides_of (put_on s p ring) ≡ flat_map (halves_by s p) (sides_of ring)
  sides_of-put_on [] = refl
  sides_of-put_on (a ∷ points) = ap sides_of (put_along a points a) ∙ halves_along a points a

  pub halves_none : (sides : List Side) → count_by (is_side s) sides ≡ 0 → flat_map (halves_by s p) sides ≡ sides
  halves_none [] h = refl
  halves_none (t ∷ sides) h =
      let n = none_first s t sides h in
      (λ i. (if n.0 i then (t.0, p) ∷ (p, t.1) ∷ [] else t ∷ []) ++ halves_none sides n.1 i)

  pub halves_once : (sides : List Side) → count_by (is_side s) sides ≡ 1 → IsPermutation (s ∷ flat_map (halves_by s p) sides) ((s.0, p) ∷ (p, s.1) ∷ sides)
  halves_once [] h = absurd (let e : 0 ≡ 1 = h in omega arith)
  halves_once (t ∷ sides) h = go (once_first s t sides h) (halves_once sides)
    where
      go : ((is_side s t ≡ true) × (count_by (is_side s) sides ≡ 0)) ⊎ ((is_side s t ≡ false) × (count_by (is_side s) sides ≡ 1))
          → (count_by (is_side s) sides ≡ 1 → IsPermutation (s ∷ flat_map (halves_by s p) sides) ((s.0, p) ∷ (p, s.1) ∷ sides))
          → IsPermutation (s ∷ flat_map (halves_by s p) (t ∷ sides)) ((s.0, p) ∷ (p, s.1) ∷ t ∷ sides)
      go (inl k) rest =
          let same : t ≡ s = sym (is_side-same s t k.0) in
          let e : s ∷ flat_map (halves_by s p) (t ∷ sides) ≡ s ∷ (s.0, p) ∷ (p, s.1) ∷ sides =
          (λ i. s ∷ (if k.0 i then (t.0, p) ∷ (p, t.1) ∷ [] else t ∷ []) ++ halves_none sides k.1 i) ∙ ap (λ (u : Side). s ∷ (u.0, p) ∷ (p, u.1) ∷ sides) same in
          permuted_as (s ∷ flat_map (halves_by s p) (t ∷ sides)) (s ∷ (s.0, p) ∷ (p, s.1) ∷ sides) ((s.0, p) ∷ (p, s.1) ∷ t ∷ sides) ((s.0, p) ∷ (p, s.1) ∷ s ∷ sides)
          e (ap (λ (u : Side). (s.0, p) ∷ (p, s.1) ∷ u ∷ sides) same)
          (IsPermutation-sym ((s.0, p) ∷ (p, s.1) ∷ s ∷ sides) (s ∷ (s.0, p) ∷ (p, s.1) ∷ sides) (IsPermutation-middle ((s.0, p) ∷ (p, s.1) ∷ []) s sides))
      go (inr k) rest =
          let F = flat_map (halves_by s p) sides in
          let e : s ∷ flat_map (halves_by s p) (t ∷ sides) ≡ s ∷ t ∷ F = λ i. s ∷ (if k.0 i then (t.0, p) ∷ (p, t.1) ∷ [] else t ∷ []) ++ F in
          permuted_as (s ∷ flat_map (halves_by s p) (t ∷ sides)) (s ∷ t ∷ F) ((s.0, p) ∷ (p, s.1) ∷ t ∷ sides) ((s.0, p) ∷ (p, s.1) ∷ t ∷ sides) e refl
          (IsPermutation-trans (s ∷ t ∷ F) (t ∷ s ∷ F) ((s.0, p) ∷ (p, s.1) ∷ t ∷ sides) (IsPermutation-middle (s ∷ []) t F)
          (IsPermutation-trans (t ∷ s ∷ F) (t ∷ (s.0, p) ∷ (p, s.1) ∷ sides) ((s.0, p) ∷ (p, s.1) ∷ t ∷ sides) (IsPermutation-cons t (s ∷ F) ((s.0, p) ∷ (p, s.1) ∷ sides) (rest k.1))
          (IsPermutation-sym ((s.0, p) ∷ (p, s.1) ∷ t ∷ sides) (t ∷ (s.0, p) ∷ (p, s.1) ∷ sides) (IsPermutation-middle ((s.0, p) ∷ (p, s.1) ∷ []) t sides))))

  -- a side that the ring has once gives way to its two halves
  pub sides_of-put_on_once : (ring : Ring) → times_along s ring ≡ 1 → IsPermutation (s ∷ sides_of (put_on s p ring)) ((s.0, p) ∷ (p, s.1) ∷ sides_of ring)
  sides_of-put_on_once ring once =
      permuted_as (s ∷ sides_of (put_on s p ring)) (s ∷ flat_map (halves_by s p) (sides_of ring)) ((s.0, p) ∷ (p, s.1) ∷ sides_of ring) ((s.0, p) ∷ (p, s.1) ∷ sides_of ring)
      (ap (λ (l : List Side). s ∷ l) (sides_of-put_on ring)) refl (halves_once (sides_of ring) once)

  -- ---- The points

  length_put : (sides : List Side) → length (flat_map point_or_two sides) ≡ length sides + count_by (is_side s) sides
  length_put [] = refl
  length_put (t ∷ sides) = go (is_side s t) (length_put sides) (sum_by-cons (λ (u : Side). cond (is_side s u) 1 0) t sides)
    where
      go : (v : Bool) → length (flat_map point_or_two sides) ≡ length sides + count_by (is_side s) sides → count_by (is_side s) (t ∷ sides) ≡ cond v 1 0 + count_by (is_side s) sides
          → length ((if v then t.0 ∷ p ∷ [] else t.0 ∷ []) ++ flat_map point_or_two sides) ≡ suc (length sides) + count_by (is_side s) (t ∷ sides)
      go true e k = omega arith
      go false e k = omega arith

  pub length-put_on : (ring : Ring) → length (put_on s p ring) ≡ length ring + times_along s ring
  length-put_on ring = let e = length_put (sides_of ring) in let e' = length-sides_of ring in omega arith

  pub put_on-same : (r t : Ring) → IsSameRing r t → IsSameRing (put_on s p r) (put_on s p t)
  put_on-same r t h =
      let k = h.place in
      let S = sides_of r in
      let G : List Side → List ℕ = λ l. flat_map point_or_two l in
      let first : G (take k S) ++ G (drop k S) ≡ put_on s p r = sym (flat_map-append point_or_two (take k S) (drop k S)) ∙ ap G (take-append-drop k S) in
      let second : put_on s p t ≡ G (drop k S) ++ G (take k S) = ap (put_on s p) h.is ∙ ap G (sides_of-turned k r) ∙ flat_map-append point_or_two (drop k S) (take k S) in
      subst (λ (l : List ℕ). IsSameRing l (put_on s p t)) first (subst (λ (l : List ℕ). IsSameRing (G (take k S) ++ G (drop k S)) l) (sym second) (IsSameRing-append (G (take k S)) (G (drop k S))))
