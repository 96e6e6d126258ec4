-- What the code rests on: two lists less their first elements, and what holds of the ends of sides.
use Rattle.std.proofs.Common.{◌≡◌, ℕ, ◌+◌, ◌-◌, ◌≤◌, sym, ◌∙◌, ap, inl, inr, List, [], ◌∷◌, ◌++◌, length, drop, min, arith}
use Rattle.std.proofs.Math.Seq.{drop-append-add}
use Rattle.std.proofs.lemmas.List.{drop-append-le, drop_all}
use Rattle.std.proofs.lemmas.List.Elements.{recursion_from_All}
use Rattle.std.proofs.lemmas.Bool.{cases_order}
use Rattle.std.specs.List.{All, AllByRecursion}
use Rattle.cad_rings.specs.Cycle.{Ring, sides_along, sides_of}

-- m elements are dropped of the two lists, as many as there are of the first
pub dropped : (m : ℕ) (xs ys : List ℕ) → drop (min m (length xs)) xs ++ drop (m - min m (length xs)) ys ≡ drop m (xs ++ ys)
dropped m xs ys = elim (cases_order m (length xs)) [
  | inl same ↦ few (omega arith)
  | inr apart ↦ elim apart [ inl less ↦ few (omega arith) | inr more ↦ many (omega arith) ]
]
  where
    few : m ≤ length xs → drop (min m (length xs)) xs ++ drop (m - min m (length xs)) ys ≡ drop m (xs ++ ys)
    few h =
        let e : min m (length xs) ≡ m = omega arith in
        let none : m - min m (length xs) ≡ 0 = omega arith in
        (λ i. drop (e i) xs ++ drop (none i) ys) ∙ sym (drop-append-le m xs ys h)

    many : length xs ≤ m → drop (min m (length xs)) xs ++ drop (m - min m (length xs)) ys ≡ drop m (xs ++ ys)
    many h =
        let e : min m (length xs) ≡ length xs = omega arith in
        let n = m - length xs in
        let rest : m - min m (length xs) ≡ n = omega arith in
        let whole : length xs + n ≡ m = omega arith in
        (λ i. drop (e i) xs ++ drop (rest i) ys) ∙ ap (λ (l : List ℕ). l ++ drop n ys) (drop_all (length xs) xs (omega arith)) ∙ sym (drop-append-add xs ys n) ∙ ap (λ (k : ℕ). drop k (xs ++ ys)) whole

module _ (P : ℕ → Type 0) where
  ends_along : (a : ℕ) (xs : List ℕ) (z : ℕ) → P a → AllByRecursion P xs → P z → AllByRecursion (λ s. P s.0 × P s.1) (sides_along a xs z)
  ends_along a [] z ha hs hz = ((ha, hz), tt)
  ends_along a (x ∷ xs) z ha hs hz = ((ha, hs.0), ends_along x xs z hs.0 hs.1 hz)

  ends_of_points : (ring : Ring) → AllByRecursion P ring → AllByRecursion (λ s. P s.0 × P s.1) (sides_of ring)
  ends_of_points [] h = tt
  ends_of_points (a ∷ points) h = ends_along a points a h.0 h.1 h.0

  -- what holds of each point holds of both ends of each side
  pub ends_of : (ring : Ring) → All P ring → AllByRecursion (λ s. P s.0 × P s.1) (sides_of ring)
  ends_of ring h = ends_of_points ring (recursion_from_All P ring h)
