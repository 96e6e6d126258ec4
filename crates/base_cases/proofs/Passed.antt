-- What a search gave, of which none has the number that is looked for.
use Rattle.std.proofs.Common.{◌≡◌, ℕ, List, [], ◌∷◌, ◌++◌, map, refl, sym, ap, subst, ◌∙◌, arith, inl, inr}
use Rattle.std.proofs.lemmas.List.Elements.{Contains-push_cases}
use Rattle.std.specs.Prelude.{Result, Ok, Err, OnOk}
use Rattle.std.specs.List.{Contains}
use Rattle.geo_exact.specs.Position.{Position}
use Rattle.geo_exact.specs.Segment.{HaveCommonLocation}
use Rattle.cell_grid.specs.declared.entry.Entry.{Entry}
use Rattle.cell_grid.specs.Kept.{Kept, IsHeld, HoldsOneMore}

map-same : {X : Type 0} (xs : List X) → map (λ x. x) xs ≡ xs
map-same [] = refl
map-same (x ∷ xs) = ap (λ l. x ∷ l) (map-same xs)

module _ {X : Type 0} (number : X → ℕ) where
  pub none-more : (xs : List X) (x : X) (n : ℕ) → ((k : X) → Contains xs k → ¬ (number k ≡ n))
      → ¬ (number x ≡ n) → (k : X) → Contains (xs ++ x ∷ []) k → ¬ (number k ≡ n)
  none-more xs x n before other k h = elim (Contains-push_cases xs x k h) [
    | inl there ↦ before k there
    | inr same ↦ subst (λ (j : X). ¬ (number j ≡ n)) same other
  ]

  pub none-at_end : (seen given : List X) (x : X) → map (λ x. x) seen ≡ given
      → ((k : X) → Contains seen k → ¬ (number k ≡ number x)) → ¬ Contains given x
  none-at_end seen given x all none h =
      none x (subst (λ (l : List X). Contains l x) (sym (sym (map-same seen) ∙ all)) h) refl

pub meets_itself : (a b : Position) → HaveCommonLocation a b a b
meets_itself a b = record {
  n = 1;
  s = 0;
  t = 0;
  some = omega arith;
  on_first = omega arith;
  on_second = omega arith;
  same = refl;
}

-- what was put in is held
pub now_held : {T E : Type 0} → (r : Result T E) (old : Kept) (entry : Entry) (new : Kept)
    → OnOk r (HoldsOneMore old entry new) → OnOk r (IsHeld new entry)
now_held (Ok t) old entry new more = (more entry).1 (inr refl)
now_held (Err e) old entry new more = tt
