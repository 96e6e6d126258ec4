-- The sides of a ring from a place on: the first of them leads to the next point, or at the end to the first.
use Rattle.std.proofs.Common.{◌≡◌, ℕ, zero, suc, ◌+◌, ◌<◌, refl, List, [], ◌∷◌, length, drop, add-one, arith}
use Rattle.std.specs.Prelude.{slice_index}
use Rattle.cad_rings.specs.Cycle.{sides_along, sides_of}

along_inside : (a : ℕ) (xs : List ℕ) (z i : ℕ) → i < length xs → drop i (sides_along a xs z) ≡ (slice_index (a ∷ xs) i, slice_index xs i) ∷ drop (suc i) (sides_along a xs z)
along_inside a [] z i h = absurd (omega arith)
along_inside a (x ∷ xs) z zero h = refl
along_inside a (x ∷ xs) z (suc i) h = along_inside x xs z i (omega arith)

along_last : (a : ℕ) (xs : List ℕ) (z i : ℕ) → i ≡ length xs → drop i (sides_along a xs z) ≡ (slice_index (a ∷ xs) i, z) ∷ drop (suc i) (sides_along a xs z)
along_last a [] z zero h = refl
along_last a [] z (suc i) h = absurd (omega arith)
along_last a (x ∷ xs) z zero h = absurd (omega arith)
along_last a (x ∷ xs) z (suc i) h = along_last x xs z i (omega arith)

pub side_inside : (points : List ℕ) (i : ℕ) → i + 1 < length points → drop i (sides_of points) ≡ (slice_index points i, slice_index points (i + 1)) ∷ drop (i + 1) (sides_of points)
side_inside [] i h = absurd (omega arith)
side_inside (a ∷ xs) i h = rw add-one (along_inside a xs a i (omega arith))

pub side_last : (points : List ℕ) (i : ℕ) → i + 1 ≡ length points → drop i (sides_of points) ≡ (slice_index points i, slice_index points 0) ∷ drop (i + 1) (sides_of points)
side_last [] i h = absurd (omega arith)
side_last (a ∷ xs) i h = rw add-one (along_last a xs a i (omega arith))
