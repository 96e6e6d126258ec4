-- Rows that are put into a map kind by kind.
use Rattle.std.proofs.Common.{◌≡◌, ◌∙◌, sym, ap, refl, ℕ, ◌==◌, List, [], ◌∷◌, ◌++◌, map, take, Bool, ◌||◌, Option, Some, None, inl, inr, Bor, is_some}
use Rattle.std.specs.Option.{option_copied}
use Rattle.std.specs.List.{list_any}
use Rattle.std.proofs.lemmas.List.Folds.{list_any-append}
use Rattle.std.proofs.lemmas.Bool.{cases_Bool}
use Rattle.std.proofs.lemmas.List.{take-map}
use Rattle.std.proofs.Math.Bool.{or-false}
use Rattle.cad_rows.specs.declared.rows.ParcelRow.{ParcelRow}
use Rattle.numbered_rows.specs.Rows.{row_with}
use Rattle.cad_files.specs.Kinds.{numbers_of, taken_before, name_of, is_taken, filled}
use Rattle.cad_files.specs.Rows.{Rows}
use Rattle.cad_files.specs.declared.kinds.Kind.{Kind}
use Rattle.cad_files.specs.declared.kinds.Kind.TheVariants.{Sources, Points, Parcels, Strings, Retired}

pub is_some-copied : {A : Type 0} (o : Option (Bor A)) → is_some (option_copied o) ≡ is_some o
is_some-copied None = refl
is_some-copied (Some x) = refl

module _ {R : Type 0} (number : R → ℕ) where
  -- a row with the number is there where it is a row's number
  pub is_some-row_with : (n : ℕ) (rows : List R) → is_some (row_with number n rows) ≡ list_any (λ k. k == n) (map number rows)
  is_some-row_with n [] = refl
  is_some-row_with n (r ∷ rows) = elim (cases_Bool (number r == n)) [ inl here ↦ rw here refl | inr other ↦ rw other (is_some-row_with n rows) ]

  among : (rows : List R) (i n : ℕ) → list_any (λ k. k == n) (take i (map number rows)) ≡ is_some (row_with number n (take i rows))
  among rows i n = rw (take-map number i rows) (sym (is_some-row_with n (take i rows)))

-- a row is found in a list of another kind as the row that it has
pub is_some-map : {R S : Type 0} (number : R → ℕ) (f : S → R) (n : ℕ) (rows : List S) → is_some (row_with number n (map f rows)) ≡ is_some (row_with (λ s. number (f s)) n rows)
is_some-map number f n [] = refl
is_some-map number f n (s ∷ rows) = elim (cases_Bool (number (f s) == n)) [ inl here ↦ rw here refl | inr other ↦ rw other (is_some-map number f n rows) ]

-- a number is a parcel's or a retired one
pub used-among : (parcels : List ParcelRow) (retired : List ℕ) (n : ℕ) → (is_some (row_with (λ r. r.number) n parcels) || list_any (λ k. k == n) retired) ≡ list_any (λ k. k == n) (map (λ r. r.number) parcels ++ retired)
used-among parcels retired n =
    ap (λ (b : Bool). b || list_any (λ k. k == n) retired) (is_some-row_with (λ r. r.number) n parcels) ∙ sym (list_any-append (λ k. k == n) (map (λ r. r.number) parcels) retired)

-- a number is in use where it is among those that are taken before it
pub taken-among : (rows : Rows) (kind : Kind) (i n : ℕ) → is_taken (filled rows kind i) (name_of kind n) ≡ list_any (λ k. k == n) (taken_before rows kind ++ take i (numbers_of rows kind))
taken-among rows Sources i n = sym (among (λ r. r.number) rows.sources i n)
taken-among rows Points i n = sym (among (λ r. r.number) rows.points i n)
taken-among rows Parcels i n = or-false _ ∙ sym (among (λ r. r.number) rows.parcels i n)
taken-among rows Strings i n = is_some-map (λ r. r.number) (λ s. s.row) n (take i rows.strings) ∙ sym (among (λ s. s.row.number) rows.strings i n)
taken-among rows Retired i n = used-among rows.parcels (take i rows.retired) n
