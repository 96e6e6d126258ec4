-- What is read at the place of a number.
use Rattle.std.proofs.Common.{◌≡◌, ◌∙◌, sym, ap, refl, ℕ, get_or, position, slice_get, nat_eq, Option, Some, None, IfSome}
use Rattle.std.specs.List.{IsDistinct}
use Rattle.std.specs.Map.{lookup, values_of}
use Rattle.std.specs.Option.{option_map}
use Rattle.std.proofs.lemmas.Bool.{eqb-true}
use Rattle.std.proofs.lemmas.Cmp.{nat_eq_equiv}
use Rattle.std.proofs.lemmas.List.Quantifiers.{position-Some}
use Rattle.std.proofs.lemmas.Map.Entries.{lookup_from_place}
use Rattle.std.proofs.lemmas.Option.{slice_get-map, slice_get-get_or, same_Some, none-some}
use Rattle.number_table.specs.Rows.{Rows, numbers_of, HasNumberAt}

module _ {V : Type 0} where
  -- what a search among the numbers finds is a place of the one that was searched
  pub has-found : (rows : Rows V) (n : ℕ) (place : Option ℕ) → place ≡ position (nat_eq n) (numbers_of rows) → IfSome place (λ p. HasNumberAt rows p n)
  has-found rows n None found = tt
  has-found rows n (Some place) found =
      let first = position-Some (nat_eq n) (numbers_of rows) place 0 (sym found) in
      slice_get-get_or (numbers_of rows) place 0 first.0 ∙ ap Some (sym (eqb-true n (get_or (numbers_of rows) place 0) first.1))

  -- the row at the place of a number has it
  pub same-number : (rows : Rows V) (place n : ℕ) (row : ℕ × V) → HasNumberAt rows place n → slice_get rows place ≡ Some row → row.0 ≡ n
  same-number rows place n row has at =
      same_Some row.0 n (sym (slice_get-map (λ (e : ℕ × V). e.0) rows place ∙ ap (option_map (λ (e : ℕ × V). e.0)) at) ∙ has)

  -- there is one
  pub row-at : (rows : Rows V) (place n : ℕ) → HasNumberAt rows place n → (value : V) × (slice_get rows place ≡ Some (n, value))
  row-at rows place n has = by (slice_get rows place) refl
    where
      by : (r : Option (ℕ × V)) → slice_get rows place ≡ r → (value : V) × (slice_get rows place ≡ Some (n, value))
      by None e = absurd (none-some n (sym (slice_get-map (λ (e : ℕ × V). e.0) rows place ∙ ap (option_map (λ (e : ℕ × V). e.0)) e) ∙ has))
      by (Some row) e = (row.1, e ∙ ap (λ (m : ℕ). Some (m, row.1)) (same-number rows place n row has e))

  -- and its value is the number's
  pub read-at : (rows : Rows V) (place n : ℕ) → IsDistinct nat_eq (numbers_of rows) → HasNumberAt rows place n
      → slice_get (values_of rows) place ≡ lookup (nat_eq n) rows
  read-at rows place n distinct has =
      let row = row-at rows place n has in
      slice_get-map (λ (e : ℕ × V). e.1) rows place ∙ ap (option_map (λ (e : ℕ × V). e.1)) row.1
      ∙ sym (lookup_from_place nat_eq_equiv rows place n row.0 distinct row.1)
