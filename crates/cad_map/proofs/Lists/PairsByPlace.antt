-- What holds of each element and each later one, by recursion and by places.
use Rattle.std.proofs.Common.{ℕ, zero, suc, ◌<◌, List, [], ◌∷◌, length, get_or, arith}
use Rattle.std.specs.List.{AllByRecursion, AllPairs}
use Rattle.cad_map.specs.Valid.{EachPair}

module _ {X : Type 0} where
  all-from_places : (P : X → Type 0) (xs : List X) → ((k : ℕ) (d : X) → k < length xs → P (get_or xs k d)) → AllByRecursion P xs
  all-from_places P [] each = tt
  all-from_places P (x ∷ xs) each = (each 0 x (omega arith), all-from_places P xs (λ k d within. each (suc k) d (omega arith)))

  all-at_place : (P : X → Type 0) (xs : List X) → AllByRecursion P xs → (k : ℕ) (d : X) → k < length xs → P (get_or xs k d)
  all-at_place P [] all k d within = absurd (omega arith)
  all-at_place P (x ∷ xs) all zero d within = all.0
  all-at_place P (x ∷ xs) all (suc k) d within = all-at_place P xs all.1 k d (omega arith)

  pub EachPair-from_AllPairs : (R : X → X → Type 0) (xs : List X) → AllPairs R xs → EachPair R xs
  EachPair-from_AllPairs R [] each = tt
  EachPair-from_AllPairs R (x ∷ xs) each = (
    all-from_places (R x) xs (λ k d within. each 0 (suc k) d (omega arith) (omega arith)),
    EachPair-from_AllPairs R xs (λ i j d lt within. each (suc i) (suc j) d (omega arith) (omega arith)),
  )

  pub AllPairs-from_EachPair : (R : X → X → Type 0) (xs : List X) → EachPair R xs → AllPairs R xs
  AllPairs-from_EachPair R [] each i j d lt within = absurd (omega arith)
  AllPairs-from_EachPair R (x ∷ xs) each i zero d lt within = absurd (omega arith)
  AllPairs-from_EachPair R (x ∷ xs) each zero (suc j) d lt within = all-at_place (R x) xs each.0 j d (omega arith)
  AllPairs-from_EachPair R (x ∷ xs) each (suc i) (suc j) d lt within = AllPairs-from_EachPair R xs each.1 i j d (omega arith) (omega arith)
