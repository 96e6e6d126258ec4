-- Rows that are inserted at a place, and removed from there.
use Rattle.std.proofs.Common.{◌≡◌, ℕ, zero, suc, List, ◌∷◌, [], map, refl, sym, ap, ◌∙◌, subst, Option, Some, None, slice_get, insert}
use Rattle.std.specs.Prelude.{option_map, IfSome, IfNone}
use Rattle.std.specs.Map.{values_of}
use Rattle.std.proofs.lemmas.Option.{slice_get-map}
use Rattle.indexmap.proofs.SetLemmas.{map-insert}
use Rattle.entry_list.specs.Slots.{Slots, rows_of, row_at, StandsAt, PutsIn}
use Rattle.numbered_rows.proofs.Entries.{lookup-row}
use Rattle.numbered_rows.specs.Rows.{rows_in, row_with, AreNumbered}

module _ {R : Type 0} (number : R → ℕ) where
  -- each row stays under its number
  pub numbered-insert : (es : List (ℕ × R)) (place : ℕ) (row : R) → AreNumbered number es → AreNumbered number (insert es place (number row, row))
  numbered-insert es zero row h = (refl, h)
  numbered-insert [] (suc place) row h = (refl, tt)
  numbered-insert (e ∷ es) (suc place) row h = (h.0, numbered-insert es place row h.1)

pub values-insert : {R : Type 0} (es : List (ℕ × R)) (place : ℕ) (e : ℕ × R) → values_of (insert es place e) ≡ insert (values_of es) place e.1
values-insert es place e = map-insert (λ e. e.1) es place e

pub value-at : {R : Type 0} (es : List (ℕ × R)) (place : ℕ) → slice_get (values_of es) place ≡ option_map (λ e. e.1) (slice_get es place)
value-at es place = slice_get-map (λ e. e.1) es place

-- ---- A row that is taken out

pub taken-row : {R : Type 0} (slots : Slots R) (n : ℕ) (o : Option (ℕ × R)) → IfSome o (λ r. StandsAt slots r.0 n r.1)
    → IfSome o (λ r. slice_get (rows_in slots) r.0 ≡ Some r.1)
taken-row slots n None there = tt
taken-row slots n (Some r) there = value-at (rows_of slots) r.0 ∙ ap (option_map (λ e. e.1)) there

numbered-at : {R : Type 0} (number : R → ℕ) (es : List (ℕ × R)) (place n : ℕ) (row : R) → AreNumbered number es → slice_get es place ≡ Some (n, row) → number row ≡ n
numbered-at number [] place n row all at = cc
numbered-at number (e ∷ es) zero n row all at = let same : e ≡ (n, row) = cc in subst (λ (f : ℕ × _). number f.1 ≡ f.0) same (sym all.0)
numbered-at number (e ∷ es) (suc place) n row all at = numbered-at number es place n row all.1 at

pub taken-number : {R : Type 0} (number : R → ℕ) (slots : Slots R) (n : ℕ) (o : Option (ℕ × R)) → AreNumbered number (rows_of slots)
    → IfSome o (λ r. StandsAt slots r.0 n r.1) → IfSome o (λ r. number r.1 ≡ n)
taken-number number slots n None all there = tt
taken-number number slots n (Some r) all there = numbered-at number (rows_of slots) r.0 n r.1 all there

pub taken-back : {R : Type 0} (old new : Slots R) (n : ℕ) (o : Option (ℕ × R)) → IfSome o (λ r. PutsIn new old r.0 n r.1)
    → IfSome o (λ r. rows_in old ≡ insert (rows_in new) r.0 r.1)
taken-back old new n None back = tt
taken-back old new n (Some r) back = ap values_of back ∙ values-insert (rows_of new) r.0 (n, r.1)

pub taken-none : {R : Type 0} (number : R → ℕ) (slots : Slots R) (n : ℕ) (o : Option (ℕ × R)) → AreNumbered number (rows_of slots)
    → IfNone o (row_at n slots ≡ None) → IfNone o (row_with number n (rows_in slots) ≡ None)
taken-none number slots n (Some r) numbered none = tt
taken-none number slots n None numbered none = sym (lookup-row number n (rows_of slots) numbered) ∙ none
