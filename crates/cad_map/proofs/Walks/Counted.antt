-- Sides in another order: two lists have the same sides where each side stands in both as often.
use Rattle.std.proofs.Common.{◌≡◌, ℕ, ◌+◌, ◌≤◌, inl, inr, refl, sym, ap, subst, ◌∙◌, List, [], ◌∷◌, ◌++◌, Bool, true, false, cond, arith}
use Rattle.std.specs.Prelude.{IsPermutation, sum_by, count_by, flat_map}
use Rattle.std.specs.List.{Contains}
use Rattle.std.proofs.lemmas.List.Sums.{sum_by-cons, sum_by-append}
use Rattle.std.proofs.lemmas.List.Sorted.{IsPermutation-refl, IsPermutation-cons, IsPermutation-sym, IsPermutation-trans, IsPermutation-middle, sum_by-IsPermutation}
use Rattle.cad_rings.specs.Cycle.{Side, is_side}
use Rattle.cad_rings.proofs.CallerLemmas.{is_side-same}
use Rattle.cad_map.proofs.Lists.Elements.{Contains-cases, Contains-first, Contains-later, count-yes, count-no}
use Rattle.cad_map.proofs.Walks.AlongRing.{is_side-refl}

-- how often the side stands in the list
abbrev pub times : Side → List Side → ℕ
times s sides = count_by (is_side s) sides

pub times-append : (s : Side) (xs ys : List Side) → times s (xs ++ ys) ≡ times s xs + times s ys
times-append s xs ys = sum_by-append (λ (t : Side). cond (is_side s t) 1 0) xs ys

pub times-cons : (s t : Side) (xs : List Side) → times s (t ∷ xs) ≡ cond (is_side s t) 1 0 + times s xs
times-cons s t xs = sum_by-cons (λ (t : Side). cond (is_side s t) 1 0) t xs

pub times-permuted : (s : Side) (xs ys : List Side) → IsPermutation xs ys → times s xs ≡ times s ys
times-permuted s xs ys h = sym (sum_by-IsPermutation (λ (t : Side). cond (is_side s t) 1 0) xs ys h)

-- of sides made of others
pub times-flat_map : {X : Type 0} (s : Side) (f : X → List Side) (xs : List X) → times s (flat_map f xs) ≡ sum_by (λ x. times s (f x)) xs
times-flat_map s f [] = refl
times-flat_map s f (x ∷ xs) = times-append s (f x) (flat_map f xs) ∙ ap (λ (n : ℕ). times s (f x) + n) (times-flat_map s f xs) ∙ sym (sum_by-cons (λ y. times s (f y)) x xs)

-- a list with an element, as what stands before it, and what stands behind it
pub parted-at : {X : Type 0} (xs : List X) (x : X) → Contains xs x → (before : List X) × (behind : List X) × (xs ≡ before ++ x ∷ behind)
parted-at [] x h = let low = h.1 in absurd (omega arith)
parted-at (y ∷ xs) x h = elim (Contains-cases y xs x h) [
  | inl is ↦ ([], xs, ap (λ (z : _). z ∷ xs) is)
  | inr later ↦ let rest = parted-at xs x later in (y ∷ rest.0, rest.1, ap (λ (zs : List _). y ∷ zs) rest.2)
]

pub counted-Contains : (s : Side) (ys : List Side) → 1 ≤ times s ys → Contains ys s
counted-Contains s [] some = absurd (omega arith)
counted-Contains s (t ∷ ys) some = by (is_side s t) refl (λ rest. counted-Contains s ys rest)
  where
    by : (b : Bool) → is_side s t ≡ b → (1 ≤ times s ys → Contains ys s) → Contains (t ∷ ys) s
    by true is again = subst (Contains (t ∷ ys)) (sym (is_side-same s t is)) (Contains-first t ys)
    by false is again = let e = count-no (is_side s) t ys is in Contains-later t ys s (again (omega (arith, some, e)))

-- each side as often: in another order
pub permuted-from_times : (xs ys : List Side) → ((s : Side) → times s xs ≡ times s ys) → IsPermutation xs ys
permuted-from_times [] [] same = IsPermutation-refl []
permuted-from_times [] (t ∷ ys) same = let e = same t in let k = count-yes (is_side t) t ys (is_side-refl t) in absurd (omega (arith, e, k))
permuted-from_times (t ∷ xs) ys same =
    let e = same t in
    let k = count-yes (is_side t) t xs (is_side-refl t) in
    let at = parted-at ys t (counted-Contains t ys (omega (arith, e, k))) in
    let moved : IsPermutation ys (t ∷ (at.0 ++ at.1)) = subst (λ (l : List Side). IsPermutation l (t ∷ (at.0 ++ at.1))) (sym at.2) (IsPermutation-middle at.0 t at.1) in
    let rest = permuted-from_times xs (at.0 ++ at.1) (λ s.
    let a = same s in
    let b = times-permuted s ys (t ∷ (at.0 ++ at.1)) moved in
    let c = times-cons s t xs in
    let d = times-cons s t (at.0 ++ at.1) in
    omega (arith, a, b, c, d)) in
    IsPermutation-trans (t ∷ xs) (t ∷ (at.0 ++ at.1)) ys (IsPermutation-cons t xs (at.0 ++ at.1) rest) (IsPermutation-sym ys (t ∷ (at.0 ++ at.1)) moved)
