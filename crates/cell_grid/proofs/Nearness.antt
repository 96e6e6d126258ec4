-- The first near entry of a list, and of lists one after another.
use Rattle.std.proofs.Common.{◌≡◌, ℕ, zero, suc, ◌+◌, ◌-◌, ◌<◌, ◌≤◌, List, [], ◌∷◌, ◌++◌, length, get_or, take, drop, filter, Bool, true, refl, sym, ap, subst, ◌∙◌, arith, add-one, drop-cons, inl, inr}
use Rattle.std.proofs.lemmas.List.Elements.{filter-append, Contains-append_left, Contains-append_right, Contains-append_cases}
use Rattle.std.proofs.lemmas.List.{take-append-drop}
use Rattle.std.proofs.lemmas.Bool.{cases_eq}
use Rattle.std.specs.List.{Contains}
use Rattle.cell_grid.specs.declared.entry.Entry.{Entry}
use Rattle.cell_grid.specs.declared.bounds.Bounds.{Bounds}
use Rattle.cell_grid.specs.Bounds.{is_near}
use Rattle.cell_grid.specs.Near.{lists_in_turn, IsFirstNear}

one_kept : (p : Entry → Bool) (x : Entry) (xs : List Entry) → p x ≡ true
    → filter p (x ∷ xs) ≡ x ∷ filter p xs
one_kept p x xs here = rw here refl

-- the entry at a place of a list that is near, where nothing before it is
pub first-near_at : (w : Bounds) (xs : List Entry) (i : ℕ) (e : Entry) {rest : List Entry}
    → i < length xs → e ≡ get_or xs i e → rest ≡ drop (i + 1) xs
    → filter (is_near w) (take i xs) ≡ [] → is_near w e ≡ true → IsFirstNear w xs e rest
first-near_at w xs i e within at after none here = record {
  before = take i xs;
  is =
      sym (take-append-drop i xs)
      ∙ ap (λ (l : List Entry). take i xs ++ l) (drop-cons xs i e within)
      ∙ ap (λ (n : ℕ). take i xs ++ (get_or xs i e ∷ drop n xs)) (sym (add-one i))
      ∙ (λ j. take i xs ++ (sym at j ∷ sym after j));
  none_before = none;
  near = here;
}

-- it is the first of the near ones, and the others are in the rest
pub first-near_kept : {w : Bounds} {xs rest : List Entry} {e : Entry} → IsFirstNear w xs e rest
    → filter (is_near w) xs ≡ e ∷ filter (is_near w) rest
first-near_kept {w} {xs} {rest} {e} f =
    ap (filter (is_near w)) f.is
    ∙ filter-append (is_near w) f.before (e ∷ rest)
    ∙ ap (λ (l : List Entry). l ++ filter (is_near w) (e ∷ rest)) f.none_before
    ∙ one_kept (is_near w) e rest f.near

pub joined-first : (list : ℕ → List Entry) (k n : ℕ) → k < n
    → lists_in_turn list k (n - k) ≡ list k ++ lists_in_turn list (k + 1) (n - (k + 1))
joined-first list k n lt =
    let more : n - k ≡ suc (n - (k + 1)) = omega arith in
    ap (lists_in_turn list k) more

-- what one list has is in the joined lists
pub joined-has : (list : ℕ → List Entry) (e : Entry) (i k n : ℕ) → k ≤ i → i < k + n
    → Contains (list i) e → Contains (lists_in_turn list k n) e
joined-has list e i k zero low high h = absurd (omega arith)
joined-has list e i k (suc n) low high h = elim (cases_eq k i) [
  | inl same ↦ Contains-append_left (list k) (lists_in_turn list (k + 1) n) e
      (subst (λ (j : ℕ). Contains (list j) e) (sym same) h)
  | inr other ↦ Contains-append_right (list k) (lists_in_turn list (k + 1) n) e
      (joined-has list e i (k + 1) n (omega arith) (omega arith) h)
]

pub joined-from : (list : ℕ → List Entry) (e : Entry) (k n : ℕ) → Contains (lists_in_turn list k n) e
    → (i : ℕ) × Contains (list i) e
joined-from list e k zero h = absurd (omega (arith, h.1))
joined-from list e k (suc n) h =
    elim (Contains-append_cases (list k) (lists_in_turn list (k + 1) n) e h) [
      | inl here ↦ (k, here)
      | inr later ↦ joined-from list e (k + 1) n later
    ]
