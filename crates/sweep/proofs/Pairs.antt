-- What holds of each element and each later one holds of any two, in one of the two orders.
use Rattle.std.proofs.Common.{◌≡◌, ◌∙◌, ℕ, zero, suc, ◌<◌, List, [], ◌∷◌, length, get_or, subst, sym, ◌⊎◌, inl, inr, arith}
use Rattle.std.specs.List.{AllByRecursion, Contains}
use Rattle.sweep.specs.Spans.{EachTwo}

module _ {X : Type 0} where
  all-at : (P : X → Type 0) (xs : List X) → AllByRecursion P xs → (x : X) (k : ℕ) → k < length xs → get_or xs k x ≡ x → P x
  all-at P [] all x k within is = absurd (omega arith)
  all-at P (y ∷ ys) all x zero within is = subst P is all.0
  all-at P (y ∷ ys) all x (suc k) within is = all-at P ys all.1 x k (omega arith) is

  two-at : (R : X → X → Type 0) (xs : List X) → EachTwo R xs → (a b : X) → ¬ (a ≡ b) → (i : ℕ) → i < length xs → get_or xs i a ≡ a → (j : ℕ) → j < length xs → get_or xs j b ≡ b → R a b ⊎ R b a
  two-at R [] pairs a b apart i in_i is_a j in_j is_b = absurd (omega arith)
  two-at R (y ∷ ys) pairs a b apart zero in_i is_a zero in_j is_b = absurd (apart (sym is_a ∙ is_b))
  two-at R (y ∷ ys) pairs a b apart zero in_i is_a (suc j) in_j is_b = inl (subst (λ (z : X). R z b) is_a (all-at (R y) ys pairs.0 b j (omega arith) is_b))
  two-at R (y ∷ ys) pairs a b apart (suc i) in_i is_a zero in_j is_b = inr (subst (λ (z : X). R z a) is_b (all-at (R y) ys pairs.0 a i (omega arith) is_a))
  two-at R (y ∷ ys) pairs a b apart (suc i) in_i is_a (suc j) in_j is_b = two-at R ys pairs.1 a b apart i (omega arith) is_a j (omega arith) is_b

  pub either : (R : X → X → Type 0) (xs : List X) → EachTwo R xs → (a b : X) → ¬ (a ≡ b) → Contains xs a → Contains xs b → R a b ⊎ R b a
  either R xs pairs a b apart has_a has_b = two-at R xs pairs a b apart has_a.0 has_a.1 has_a.2 has_b.0 has_b.1 has_b.2
