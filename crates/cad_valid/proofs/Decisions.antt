-- Tests that answer true exactly where a statement holds, of one element and of what is left of a list from a place on.
use Rattle.std.proofs.Common.{◌≡◌, ℕ, ◌+◌, ◌≤◌, sym, subst, List, [], ◌∷◌, length, Bool, true, false, not, drop, slice_get, Some}
use Rattle.std.specs.Prelude.{◌↔◌, IsTrue}
use Rattle.std.specs.List.{AllByRecursion}
use Rattle.std.proofs.lemmas.Bool.{true≢false, iff_false, not-true, not_from_false, false_from_ne_true}
use Rattle.std.proofs.lemmas.List.{drop_all}
use Rattle.cad_map.specs.Valid.{EachPair}
use Rattle.cad_map.proofs.CallerLemmas.{drop-at}

pub not-iff : (b : Bool) (P : Type 0) → IsTrue b ↔ P → IsTrue (not b) ↔ (¬ P)
not-iff b P is = ((λ t. iff_false is (not-true b t)), (λ no. not_from_false b (false_from_ne_true b (λ t. no (is.0 t)))))

pub iff-trans : {P Q R : Type 0} → P ↔ Q → Q ↔ R → P ↔ R
iff-trans h k = ((λ p. k.0 (h.0 p)), (λ r. h.1 (k.1 r)))

-- ---- What is left of a list

-- a statement on a list is one on its first element and those behind it, and the same one on those behind it
pub record IsStepwise {X : Type 0} (Here : X → List X → Type 0) (Each : List X → Type 0) : Type 0 where
  pub none : Each []
  pub parts : (x : X) (xs : List X) → Each (x ∷ xs) → Here x xs × Each xs
  pub from_parts : (x : X) (xs : List X) → Here x xs → Each xs → Each (x ∷ xs)

pub stepwise-all : {X : Type 0} (P : X → Type 0) → IsStepwise (λ x _. P x) (AllByRecursion P)
stepwise-all P = record { none = tt; parts = λ x xs h. h; from_parts = λ x xs p h. (p, h) }

pub stepwise-pairs : {X : Type 0} (R : X → X → Type 0) → IsStepwise (λ x xs. AllByRecursion (R x) xs) (EachPair R)
stepwise-pairs R = record { none = tt; parts = λ x xs h. h; from_parts = λ x xs p h. (p, h) }

module _ {X : Type 0} {Here : X → List X → Type 0} {Each : List X → Type 0} (step : IsStepwise Here Each) (whole xs : List X) (i : ℕ) (left : Each whole ↔ Each (drop i xs)) where
  -- one element more holds
  pub goes : (x : X) → slice_get xs i ≡ Some x → Here x (drop (i + 1) xs) → Each whole ↔ Each (drop (i + 1) xs)
  goes x at here = (
    (λ h. (step.parts x (drop (i + 1) xs) (subst Each (drop-at xs i x at) (left.0 h))).1),
    (λ h. left.1 (subst Each (sym (drop-at xs i x at)) (step.from_parts x (drop (i + 1) xs) here h))),
  )

  -- it doesn't hold
  pub stops : (x : X) → slice_get xs i ≡ Some x → ¬ Here x (drop (i + 1) xs) → IsTrue false ↔ Each whole
  stops x at fails = ((λ t. absurd (true≢false (sym t))), (λ h. absurd (fails (step.parts x (drop (i + 1) xs) (subst Each (drop-at xs i x at) (left.0 h))).0)))

  -- past the last element
  pub ends : length xs ≤ i → IsTrue true ↔ Each whole
  ends past = ((λ t. left.1 (subst Each (sym (drop_all i xs past)) step.none)), (λ h. λ _. true))
