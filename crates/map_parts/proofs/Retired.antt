-- Numbers that are retired, as rows.
use Rattle.std.proofs.Common.{◌≡◌, ℕ, refl, ap, ◌∙◌, List, [], ◌∷◌, ◌++◌, map, Bool, true, false, ◌==◌, ◌||◌, Option, Some, None, is_some, true≢false, arith}
use Rattle.std.specs.List.{list_any}
use Rattle.numbered_rows.specs.Rows.{row_with, without_row}
use Rattle.cad_map.specs.declared.map_rows.RetiredRow.{RetiredRow}
use Rattle.numbered_rows.proofs.ByNumbers.{some-by_numbers}

abbrev number : RetiredRow → ℕ
number r = r.number

pub none-there : {X : Type 0} (o : Option X) → is_some o ≡ false → o ≡ None
none-there None h = refl
none-there (Some x) h = absurd (true≢false h)

-- one whose number isn't retired has no row
pub none-retired : (n : ℕ) (rows : List RetiredRow) → list_any (λ k. k == n) (map number rows) ≡ false
    → row_with number n rows ≡ None
none-retired n rows none = none-there (row_with number n rows) (some-by_numbers number n rows ∙ none)

-- the last one that was retired comes back
pub retired-back : (rows : List RetiredRow) (ks : List ℕ) (n : ℕ) → map number rows ≡ ks ++ n ∷ []
    → list_any (λ k. k == n) ks ≡ false → map number (without_row number n rows) ≡ ks
retired-back [] [] n are none = cc
retired-back [] (k ∷ ks) n are none = cc
retired-back (r ∷ []) [] n are none =
    let same : r.number ≡ n = cc in
    let self : (n == n) ≡ true = grind arith in
    let is : (r.number == n) ≡ true = ap (λ (k : ℕ). k == n) same ∙ self in
    rw is refl
retired-back (r ∷ q ∷ rows) [] n are none = cc
retired-back (r ∷ rows) (k ∷ ks) n are none =
    let same : r.number ≡ k = cc in
    let rest : map number rows ≡ ks ++ n ∷ [] = cc in
    let both = neither (k == n) (list_any (λ j. j == n) ks) none in
    let is : (r.number == n) ≡ false = ap (λ (j : ℕ). j == n) same ∙ both.0 in
    rw is (λ i. same i ∷ retired-back rows ks n rest both.1 i)
  where
    neither : (a b : Bool) → (a || b) ≡ false → (a ≡ false) × (b ≡ false)
    neither false b h = (refl, h)
    neither true b h = absurd (true≢false h)
