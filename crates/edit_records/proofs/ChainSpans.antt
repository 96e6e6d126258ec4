-- The strings of a chain, one after another, as a record has them.
use Rattle.std.proofs.Common.{◌≡◌, ℕ, zero, suc, ◌+◌, refl, ap, List, [], ◌∷◌, ◌++◌, take, length, slice_get, Some, arith}
use Rattle.cad_rows.specs.declared.rows.StringRow.{StringRow}
use Rattle.edit_records.specs.HeldChains.{row_between, rows_along}
use Rattle.edit_records.specs.declared.record.ChainString.{ChainString}

-- one string more along a chain
pub rows-push : (strings : List ChainString) (points : List ℕ) (i : ℕ) (s : ChainString) (from to : ℕ) → slice_get strings i ≡ Some s → slice_get points i ≡ Some from → slice_get points (suc i) ≡ Some to
    → rows_along (take (suc i) strings) points ≡ rows_along (take i strings) points ++ row_between s from to ∷ []
rows-push [] points i s from to at at_from at_to = cc
rows-push (t ∷ strings) [] i s from to at at_from at_to = cc
rows-push (t ∷ strings) (a ∷ []) zero s from to at at_from at_to = cc
rows-push (t ∷ strings) (a ∷ []) (suc i) s from to at at_from at_to = cc
rows-push (t ∷ strings) (a ∷ b ∷ points) zero s from to at at_from at_to =
    let string : t ≡ s = cc in
    let first : a ≡ from = cc in
    let second : b ≡ to = cc in
    λ i. row_between (string i) (first i) (second i) ∷ []
rows-push (t ∷ strings) (a ∷ b ∷ points) (suc i) s from to at at_from at_to =
    ap (λ (l : List StringRow). row_between t a b ∷ l) (rows-push strings (b ∷ points) i s from to at at_from at_to)

-- of a chain with more points than strings the rest doesn't count
pub rows-more : (strings : List ChainString) (points more : List ℕ) → length points ≡ length strings + 1 → rows_along strings (points ++ more) ≡ rows_along strings points
rows-more [] points more fits = refl
rows-more (t ∷ strings) [] more fits = absurd (omega (arith, fits))
rows-more (t ∷ strings) (a ∷ []) more fits = absurd (omega (arith, fits))
rows-more (t ∷ strings) (a ∷ b ∷ points) more fits =
    ap (λ (l : List StringRow). row_between t a b ∷ l) (rows-more strings (b ∷ points) more (omega (arith, fits)))
