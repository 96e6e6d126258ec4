-- Each boundary in canonical form, one after another.
use Rattle.std.proofs.Common.{◌≡◌, ℕ, zero, suc, ◌+◌, ◌<◌, refl, sym, ap, ◌∙◌, List, [], ◌∷◌, ◌++◌, map, take, drop, length, slice_set, slice_index_or, add-one, arith, subst}
use Rattle.std.specs.List.{AllByRecursion}
use Rattle.cad_map.specs.declared.boundary.Boundary.{Boundary}

module _ (f : Boundary → Boundary) where
  abbrev changed_to : ℕ → List Boundary → List Boundary
  changed_to i xs = map f (take i xs) ++ drop i xs

  next : (xs : List Boundary) (i : ℕ) (d : Boundary) → i < length xs → slice_set (changed_to i xs) i (f (slice_index_or (changed_to i xs) i d)) ≡ changed_to (suc i) xs
  next [] i d h = absurd (omega arith)
  next (x ∷ xs) zero d h = refl
  next (x ∷ xs) (suc i) d h = ap (λ (l : List Boundary). f x ∷ l) (next xs i d (omega arith))

  -- where the first i are changed, the next one is
  pub changed-next : (xs items : List Boundary) (i : ℕ) (d : Boundary) → i < length xs → items ≡ changed_to i xs → slice_set items i (f (slice_index_or items i d)) ≡ changed_to (i + 1) xs
  changed-next xs items i d h is = rw is (next xs i d h ∙ ap (λ (n : ℕ). changed_to n xs) (sym (add-one i)))

-- a fact of each of the first, and of the next one, in the place of which it stands
pub All-next : (P : Boundary → Type 0) (items : List Boundary) (i : ℕ) (b : Boundary) → i < length items → AllByRecursion P (take i items) → P b → AllByRecursion P (take (i + 1) (slice_set items i b))
All-next P items i b h all holds = subst (λ (n : ℕ). AllByRecursion P (take n (slice_set items i b))) (sym (add-one i)) (by items i h all)
  where
    by : (items : List Boundary) (i : ℕ) → i < length items → AllByRecursion P (take i items) → AllByRecursion P (take (suc i) (slice_set items i b))
    by [] i h all = absurd (omega arith)
    by (x ∷ xs) zero h all = (holds, tt)
    by (x ∷ xs) (suc i) h all = (all.0, by xs i (omega arith) all.1)
