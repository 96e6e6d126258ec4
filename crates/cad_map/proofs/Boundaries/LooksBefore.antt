-- What comes before a side that is looked for in rings, one after another.
use Rattle.std.proofs.Common.{◌≡◌, ℕ, suc, ◌+◌, ◌-◌, ◌<◌, ◌≤◌, refl, sym, ap, ◌∙◌, subst, List, [], ◌∷◌, ◌++◌, length, take, drop, Some, None, Bool, true, false, cond, arith, get_or, drop-cons}
use Rattle.std.specs.Prelude.{nat_lt, position, slice_index}
use Rattle.std.specs.List.{Contains, position_or_len}
use Rattle.std.proofs.lemmas.Bool.Decides.{nat_tests}
use Rattle.std.proofs.lemmas.List.Sums.{fails_before_first}
use Rattle.std.proofs.lemmas.List.Quantifiers.{position-Some}
use Rattle.std.proofs.lemmas.List.Sorted.{Contains-permutation, IsPermutation-sym}
use Rattle.cad_rings.specs.Cycle.{Ring, Side, is_side, has_side, sides_of, corners_along, corners_of, turned}
use Rattle.cad_rings.specs.Surgery.{corner}
use Rattle.cad_rings.proofs.CallerLemmas.{is_side-same, sides_of-turned, length-sides_of, length-turned, corners_of-same, IsSameRing-turned}
use Rattle.cad_map.proofs.Lists.Elements.{Contains-first, Contains-later}
use Rattle.cad_map.proofs.Lists.ElementFacts.{list_any-none}

-- the last corner along points
last-along : (p q : ℕ) (xs : List ℕ) (a b : ℕ) → Contains (corners_along p q (xs ++ a ∷ b ∷ [])) (corner (get_or (q ∷ xs) (length xs) 0) a b)
last-along p q [] a b = Contains-later (corner p q a) (corner q a b ∷ []) (corner q a b) (Contains-first (corner q a b) [])
last-along p q (c ∷ xs) a b = Contains-later (corner p q c) (corners_along q c (xs ++ a ∷ b ∷ [])) _ (last-along q c xs a b)

-- the last point of a ring comes before its first side
first-corner : (r : Ring) (s : Side) (rest : List Side) (last : ℕ) → last + 1 ≡ length r → 2 ≤ length r → sides_of r ≡ s ∷ rest → Contains (corners_of r) (corner (slice_index r last) s.0 s.1)
first-corner [] s rest last is two sides = absurd (omega arith)
first-corner (a ∷ []) s rest last is two sides = absurd (omega arith)
first-corner (a ∷ b ∷ xs) s rest last is two sides =
    let e : (a, b) ≡ s = cc in
    let at : suc (length xs) ≡ last = omega arith in
    subst (λ (t : Side). Contains (corners_of (a ∷ b ∷ xs)) (corner (slice_index (a ∷ b ∷ xs) last) t.0 t.1)) e
    (subst (λ (k : ℕ). Contains (corners_of (a ∷ b ∷ xs)) (corner (slice_index (a ∷ b ∷ xs) k) a b)) at (last-along a b xs a b))

-- where a ring has a side at a place, the point before that place comes before the side
pub before-some : (ring : Ring) (s : Side) (place : ℕ) → 2 ≤ length ring → position (is_side s) (sides_of ring) ≡ Some place → Contains (corners_of ring) (corner (slice_index (turned place ring) (length ring - 1)) s.0 s.1)
before-some ring s place two found =
    let at = position-Some (is_side s) (sides_of ring) place s found in
    let t = get_or (sides_of ring) place s in
    let same : s ≡ t = is_side-same s t at.1 in
    let turn : sides_of (turned place ring) ≡ t ∷ (drop (suc place) (sides_of ring) ++ take place (sides_of ring)) =
    sides_of-turned place ring ∙ ap (λ (l : List Side). l ++ take place (sides_of ring)) (drop-cons (sides_of ring) place s at.0) in
    let long = length-turned place ring in
    let here = first-corner (turned place ring) t _ (length ring - 1) (omega arith) (omega arith) turn in
    Contains-permutation (corners_of (turned place ring)) (corners_of ring) _
    (IsPermutation-sym (corners_of ring) (corners_of (turned place ring)) (corners_of-same ring (turned place ring) (IsSameRing-turned place ring)))
    (subst (λ (u : Side). Contains (corners_of (turned place ring)) (corner (slice_index (turned place ring) (length ring - 1)) u.0 u.1)) (sym same) here)

-- and so the place is one of the ring's
pub place-within : (ring : Ring) (s : Side) (place : ℕ) → position (is_side s) (sides_of ring) ≡ Some place → place < length ring
place-within ring s place found =
    let at = (position-Some (is_side s) (sides_of ring) place s found).0 in
    let long = length-sides_of ring in
    omega arith

-- where it has the side at no place, it doesn't have it
pub before-none : (s : Side) (sides : List Side) → position (is_side s) sides ≡ None → has_side s sides ≡ false
before-none s sides none = list_any-none (is_side s) sides (λ t h.
    let low = h.1 in
    let until = past (nat_lt (position_or_len (is_side s) sides) (length sides)) refl none in
    subst (λ (u : Side). is_side s u ≡ false) h.2 (fails_before_first (is_side s) sides h.0 t (omega (arith, low, until))))
  where
    past : (b : Bool) → nat_lt (position_or_len (is_side s) sides) (length sides) ≡ b → cond b (Some (position_or_len (is_side s) sides)) None ≡ None → length sides ≤ position_or_len (is_side s) sides
    past true is none = cc
    past false is none = grind (arith, nat_tests, is)
