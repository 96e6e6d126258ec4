-- The first reason of several, asked in two parts.
use Rattle.std.proofs.Common.{◌≡◌, refl, List, [], ◌∷◌, ◌++◌, Option, Some, None}
use Rattle.cad_rows.specs.declared.refusals.Refusal.{Refusal}
use Rattle.cad_map.specs.Refusals.{first_of}

pub first-none : (a : Option Refusal) (rest : List (Option Refusal)) → first_of (a ∷ rest) ≡ None → (a ≡ None) × (first_of rest ≡ None)
first-none None rest h = (refl, h)
first-none (Some r) rest h = cc

-- a reason of the former ones is the first of all
pub first-former : (xs ys : List (Option Refusal)) (r : Refusal) → first_of xs ≡ Some r → first_of (xs ++ ys) ≡ Some r
first-former [] ys r h = cc
first-former (None ∷ xs) ys r h = first-former xs ys r h
first-former (Some x ∷ xs) ys r h = h

-- and where none of them applies it is the first of the latter ones
pub first-latter : (xs ys : List (Option Refusal)) → first_of xs ≡ None → first_of (xs ++ ys) ≡ first_of ys
first-latter [] ys h = refl
first-latter (None ∷ xs) ys h = first-latter xs ys h
first-latter (Some x ∷ xs) ys h = cc
