-- What holds of a map with one row in another state, where that row is there.
use Rattle.std.proofs.Common.{◌≡◌, ℕ, ap, refl, ◌∙◌, List, Option, None, Some}
use Rattle.std.specs.Prelude.{option_map, unwrap_or}
use Rattle.cad_map.specs.Map.{Map}
use Rattle.numbered_rows.specs.Rows.{row_with}
use Rattle.cad_map.proofs.CallerLemmas.{found-number}

-- a row that isn't there leaves the map as it is
pub if-changed : {R : Type 0} (P : Map → Type 0) (m : Map) (o : Option R) (made : R → Map) → P m
    → ((r : R) → o ≡ Some r → P (made r)) → P (unwrap_or (option_map made o) m)
if-changed P m None made same each = same
if-changed P m (Some r) made same each = each r refl

-- a row that is found by some number is found by its own
pub found-own : {R : Type 0} (number : R → ℕ) (n : ℕ) (rows : List R) (r : R)
    → row_with number n rows ≡ Some r → row_with number (number r) rows ≡ Some r
found-own number n rows r is =
    ap (λ (k : ℕ). row_with number k rows) (found-number number n rows r is) ∙ is
