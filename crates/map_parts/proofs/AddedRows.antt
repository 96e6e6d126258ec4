-- Rows with several strings and a parcel more, and without them again.
use Rattle.std.proofs.Common.{◌≡◌, ◌≢◌, ℕ, refl, sym, ap, subst, ◌∙◌, List, [], ◌∷◌, ◌++◌, not, ◌==◌, append-nil, slice_get, length, Some, None, is_some}
use Rattle.std.specs.Prelude.{IsSome}
use Rattle.std.specs.List.{AllByRecursion}
use Rattle.std.proofs.lemmas.Cmp.{nat_eq_equiv}
use Rattle.std.proofs.lemmas.List.Elements.{filter-append}
use Rattle.cad_rows.specs.declared.rows.ParcelRow.{ParcelRow}
use Rattle.cad_rows.specs.declared.rows.StringRow.{StringRow}
use Rattle.cad_map.specs.Map.{Map, string_of, parcel_of}
use Rattle.numbered_rows.specs.Rows.{row_with, without_row}
use Rattle.cad_map.specs.Valid.{EachPair}
use Rattle.cad_map.proofs.CallerLemmas.{row_with-there}
use Rattle.half_paths.specs.Loose.{numbers_of}
use Rattle.map_parts.specs.StringRows.{without_rows}
use Rattle.map_parts.proofs.Passing.SplitBetween.{without-none}
use Rattle.map_parts.proofs.Passing.SplitUndone.{without-absent, without-last}

pub row-last : {X : Type 0} (xs : List X) (x : X) → slice_get (xs ++ x ∷ []) (length xs) ≡ Some x
row-last [] x = refl
row-last (y ∷ xs) x = row-last xs x

-- strings that came last go, where no row before them has one of their numbers
pub without-added : (old added : List StringRow) → EachPair (λ a b. a ≢ b) (numbers_of added)
    → AllByRecursion (λ n. row_with (λ (r : StringRow). r.number) n old ≡ None) (numbers_of added)
    → without_rows (numbers_of added) (old ++ added) ≡ old
without-added old [] each none = append-nil old
without-added old (s ∷ added) each none =
    let self = nat_eq_equiv.refl s.number in
    let first : without_row (λ (r : StringRow). r.number) s.number (s ∷ added) ≡ added =
    rw self (without-none (λ (r : StringRow). r.number) s.number added each.0) in
    ap (without_rows (numbers_of added))
    (filter-append (λ (r : StringRow). not (r.number == s.number)) old (s ∷ added)
    ∙ (λ i. without-absent (λ (r : StringRow). r.number) s.number old none.0 i ++ first i))
    ∙ without-added old added each.1 none.1

-- the rows of each of these numbers
absent : (m : Map) (added : List StringRow) → AllByRecursion (λ n. string_of m n ≡ None) (numbers_of added) → AllByRecursion (λ (s : StringRow). string_of m s.number ≡ None) added
absent m [] all = tt
absent m (s ∷ added) all = (all.0, absent m added all.1)

module _ (m now : Map) (numbers : List ℕ) (added : List StringRow) (numbered : numbers_of added ≡ numbers) (distinct : EachPair (λ a b. a ≢ b) numbers)
    (strings_new : AllByRecursion (λ n. string_of m n ≡ None) numbers) (row : ParcelRow) (parcel_new : parcel_of m row.number ≡ None)
    (rows_now : record now { boundaries = [] } ≡ record m { strings = m.strings ++ added; parcels = m.parcels ++ row ∷ []; boundaries = [] }) where
  pub rows-come : (rows new : Map) → rows ≡ record m { boundaries = [] } → new ≡ record rows { strings = rows.strings ++ added; parcels = rows.parcels ++ row ∷ [] }
      → new ≡ record now { boundaries = [] }
  rows-come rows new are same = same ∙ ap (λ (q : Map). record q { strings = q.strings ++ added; parcels = q.parcels ++ row ∷ [] }) are ∙ sym rows_now

  pub rows-go : (rows new : Map) → rows ≡ record now { boundaries = [] }
      → new ≡ record rows { strings = without_rows numbers rows.strings; parcels = without_row (λ (r : ParcelRow). r.number) row.number rows.parcels }
      → new ≡ record m { boundaries = [] }
  rows-go rows new are same =
      same
      ∙ ap (λ (q : Map). record q { strings = without_rows numbers q.strings; parcels = without_row (λ (r : ParcelRow). r.number) row.number q.parcels }) (are ∙ rows_now)
      ∙ (λ i. record m {
        strings = (ap (λ (l : List ℕ). without_rows l (m.strings ++ added)) (sym numbered)
            ∙ without-added m.strings added (subst (EachPair (λ a b. a ≢ b)) (sym numbered) distinct) (subst (AllByRecursion (λ n. string_of m n ≡ None)) (sym numbered) strings_new)) i;
        parcels = without-last (λ (r : ParcelRow). r.number) m.parcels row parcel_new i;
        boundaries = [];
      })

  pub strings-absent : AllByRecursion (λ (s : StringRow). string_of m s.number ≡ None) added
  strings-absent = absent m added (subst (AllByRecursion (λ n. string_of m n ≡ None)) (sym numbered) strings_new)

  pub parcel-there : IsSome (parcel_of (record now { boundaries = [] }) row.number)
  parcel-there =
      ap (λ (q : Map). is_some (parcel_of q row.number)) rows_now
      ∙ row_with-there (λ (r : ParcelRow). r.number) (m.parcels ++ row ∷ []) (length m.parcels) row (row-last m.parcels row)
