-- Rows that are taken out of a map one after another.
use Rattle.std.specs.Prelude.{◌≡◌, ⊤, ℕ, List, ◌∷◌, slice_get, Some}
use Rattle.cad_rows.specs.declared.rows.StringRow.{StringRow}
use Rattle.numbered_rows.specs.Rows.{without_row}

-- each of these rows is at its place when those before it are out
abbrev pub AreAtPlaces : List StringRow → List StringRow → List ℕ → Type 0
AreAtPlaces rows (r ∷ gone) (place ∷ places) =
    (slice_get rows place ≡ Some r)
    × AreAtPlaces (without_row (λ q. q.number) r.number rows) gone places
AreAtPlaces rows gone places = ⊤
