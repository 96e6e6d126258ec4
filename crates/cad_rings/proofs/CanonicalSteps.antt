-- How two lists are compared, and how the least rotation is looked for, step by step.
use Rattle.std.proofs.Common.{◌≡◌, ◌≢◌, ℕ, zero, suc, ◌+◌, ◌-◌, ◌<◌, ◌≤◌, refl, ap, ◌∙◌, List, [], ◌∷◌, ◌++◌, take, drop, length, false, add-one, arith, nat_lt}
use Rattle.std.proofs.lemmas.Bool.Decides.{nat_tests}
use Rattle.std.specs.Prelude.{slice_index, if◌then◌else◌}
use Rattle.cad_rings.specs.Cycle.{Ring, turned}
use Rattle.cad_rings.specs.Canonical.{comes_first, rotations_from, least}

-- two lists are in the order of the first elements that differ
pub differ : (xs ys xs' ys' : List ℕ) (x y : ℕ) → xs ≡ x ∷ xs' → ys ≡ y ∷ ys' → x ≢ y → comes_first xs ys ≡ nat_lt x y
differ xs ys xs' ys' x y ex ey other = rw (ex, ey) (grind (arith, nat_tests, other))

-- and of the rest where these are equal
pub agree : (xs ys xs' ys' : List ℕ) (x y : ℕ) → xs ≡ x ∷ xs' → ys ≡ y ∷ ys' → x ≡ y → comes_first xs ys ≡ comes_first xs' ys'
agree xs ys xs' ys' x y ex ey same = rw (ex, ey, same) (grind (arith, nat_tests))

-- a list that goes on comes after one that has ended
pub ended : (xs ys xs' : List ℕ) (x : ℕ) → xs ≡ x ∷ xs' → ys ≡ [] → comes_first xs ys ≡ false
ended xs ys xs' x ex ey = rw (ex, ey) refl

-- what is left from a place on
pub left_from : (xs : List ℕ) (i : ℕ) → i < length xs → drop i xs ≡ slice_index xs i ∷ drop (i + 1) xs
left_from [] i h = absurd (omega arith)
left_from (x ∷ xs) zero h = refl
left_from (x ∷ xs) (suc i) h = rw (add-one (suc i)) (left_from xs i (omega arith) ∙ ap (λ (n : ℕ). slice_index xs i ∷ drop n xs) (add-one i))

pub nothing_left : {X : Type 0} (xs : List X) (i : ℕ) → length xs ≤ i → drop i xs ≡ []
nothing_left [] zero h = refl
nothing_left [] (suc i) h = refl
nothing_left (x ∷ xs) zero h = absurd (omega arith)
nothing_left (x ∷ xs) (suc i) h = nothing_left xs i (omega arith)

-- ---- The rotations, one after the other

take-next : (xs : List ℕ) (i : ℕ) → i < length xs → take i xs ++ slice_index xs i ∷ [] ≡ take (i + 1) xs
take-next [] i h = absurd (omega arith)
take-next (x ∷ xs) zero h = refl
take-next (x ∷ xs) (suc i) h = rw (add-one (suc i)) (ap (λ (ys : List ℕ). x ∷ ys) (take-next xs i (omega arith) ∙ ap (λ (n : ℕ). take n xs) (add-one i)))

-- the rotations from a place on are the one from that place, and those from the next place on
pub next_rotation : (xs : Ring) (i : ℕ) → i < length xs → rotations_from (take i xs) (drop i xs) ≡ turned i xs ∷ rotations_from (take (i + 1) xs) (drop (i + 1) xs)
next_rotation xs i h =
    rw (left_from xs i h) (ap (λ (front : List ℕ). (slice_index xs i ∷ drop (i + 1) xs ++ take i xs) ∷ rotations_from front (drop (i + 1) xs)) (take-next xs i h))

-- the least so far, compared with the next rotation
pub next_least : (xs : Ring) (i best better : ℕ) → i < length xs → turned better xs ≡ (if comes_first (turned best xs) (turned i xs) then turned best xs else turned i xs)
    → least (turned best xs) (rotations_from (take i xs) (drop i xs)) ≡ least (turned better xs) (rotations_from (take (i + 1) xs) (drop (i + 1) xs))
next_least xs i best better h is = rw (next_rotation xs i h, is) refl

pub no_rotation : (xs : Ring) (i best : ℕ) → length xs ≤ i → least (turned best xs) (rotations_from (take i xs) (drop i xs)) ≡ turned best xs
no_rotation xs i best h = rw (nothing_left xs i h) refl
