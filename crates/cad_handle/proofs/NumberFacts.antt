-- A point and a parcel of a valid map have numbers in range.
use Rattle.std.proofs.Common.{◌≡◌, refl, ℕ, ◌==◌, List, [], ◌∷◌, map, Some, None, inl, inr, subst}
use Rattle.std.specs.List.{AllByRecursion}
use Rattle.std.proofs.lemmas.Bool.{cases_Bool, eqb-true}
use Rattle.cad_rows.specs.Limits.{IsNumber}
use Rattle.cad_rows.specs.declared.rows.PointRow.{PointRow}
use Rattle.cad_rows.specs.declared.rows.ParcelRow.{ParcelRow}
use Rattle.cad_map.specs.Map.{Map, point_of, parcel_of}
use Rattle.numbered_rows.specs.Rows.{row_with}
use Rattle.cad_map.specs.Valid.{IsValid}

no_row : {R : Type 0} (number : R → ℕ) (rows : List R) (n : ℕ) → AllByRecursion IsNumber (map number rows) → ¬ IsNumber n → row_with number n rows ≡ None
no_row number [] n all out = refl
no_row number (r ∷ rows) n all out = elim (cases_Bool (number r == n)) [
  | inl same ↦ absurd (out (subst IsNumber (eqb-true (number r) n same) all.0))
  | inr other ↦ rw other (no_row number rows n all.1 out)
]

pub no-point : (m : Map) (n : ℕ) → IsValid m → ¬ IsNumber n → point_of m n ≡ None
no-point m n valid out = no_row (λ (r : PointRow). r.number) m.points n valid.sound.v1.points.in_range out

pub no-parcel : (m : Map) (n : ℕ) → IsValid m → ¬ IsNumber n → parcel_of m n ≡ None
no-parcel m n valid out = no_row (λ (r : ParcelRow). r.number) m.parcels n valid.sound.v1.parcels.in_range out
