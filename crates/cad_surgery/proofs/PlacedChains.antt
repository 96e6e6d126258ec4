-- Rows that went from a map, by the chain or the ring along which they led.
use Rattle.std.proofs.Common.{◌≡◌, ℕ, Bool, true, false, refl, sym, ap, subst, ◌∙◌, List, [], ◌∷◌, map, length, Option, arith}
use Rattle.std.specs.Prelude.{IsPermutation, unwrap_or}
use Rattle.std.specs.List.{AllByRecursion, Contains}
use Rattle.std.proofs.lemmas.List.Sorted.{IsPermutation-map}
use Rattle.cad_rows.specs.declared.rows.StringRow.{StringRow}
use Rattle.cad_rings.specs.Cycle.{Side}
use Rattle.cad_rings.specs.Surgery.{sides_of_chain}
use Rattle.cad_map.specs.Map.{Map, string_of}
use Rattle.cad_map.specs.Valid.{EachPair}
use Rattle.cad_map.proofs.CallerLemmas.{All-at_each, Contains-first, Contains-later, row-found}
use Rattle.half_table.specs.declared.half.Half.{Half}
use Rattle.half_table.specs.Rows.{HalfRows}
use Rattle.half_paths.specs.Path.{strings_of}
use Rattle.half_paths.specs.Loose.{numbers_of}
use Rattle.cad_laws.specs.Local.{side_by}
use Rattle.edit_records.specs.declared.record.ChainString.{ChainString}
use Rattle.edit_records.specs.HeldChains.{rows_along, row_between, side_along}
use Rattle.map_parts.specs.declared.edits.placed_strings.PlacedString.{PlacedString}
use Rattle.map_parts.specs.Merging.{rows_gone}
use Rattle.map_parts.specs.Parts.{HasHalves}
use Rattle.map_parts.specs.PlacedStrings.{numbers_placed}
use Rattle.map_parts.proofs.AlongPaths.{first-of, tail-of}
use Rattle.map_parts.proofs.CycleRings.{map-map}
use Rattle.map_parts.proofs.KeptEach.{map-cong}
use Rattle.cad_surgery.specs.ChainStrings.{with_halves}
use Rattle.cad_surgery.proofs.NamedRings.{row-side}

-- a row that leads from one point to another along its half is the one between them
between-row : (r : StringRow) (h : Half) (place : ℕ) (a b : ℕ) → r.number ≡ h.string → side_along r h ≡ (a, b)
    → row_between (record { half = h; place = place; sources = r.sources }) a b ≡ r
between-row r h place a b number side = by h.forward side
  where
    by : (f : Bool) → side_along r (record h { forward = f }) ≡ (a, b)
        → row_between (record { half = record h { forward = f }; place = place; sources = r.sources }) a b ≡ r
    by true is = λ i. record { number = sym number i; from = sym (ap (λ (s : Side). s.0) is) i; to = sym (ap (λ (s : Side). s.1) is) i; sources = r.sources }
    by false is = λ i. record { number = sym number i; from = sym (ap (λ (s : Side). s.1) is) i; to = sym (ap (λ (s : Side). s.0) is) i; sources = r.sources }

-- the rows along a chain, by the halves that lead along it
pub rows-placed : (m : Map) (rows : HalfRows) (ends : AllByRecursion (HasHalves rows) m.strings) (path : List Half) (gone : List PlacedString) (chain : List ℕ)
    → map (side_by rows) path ≡ sides_of_chain chain → numbers_placed gone ≡ strings_of path → ((g : PlacedString) → Contains gone g → Contains m.strings g.row)
    → rows_along (with_halves path gone) chain ≡ rows_gone gone
rows-placed m rows ends [] [] [] sides numbers there = refl
rows-placed m rows ends [] [] (a ∷ chain) sides numbers there = refl
rows-placed m rows ends [] (g ∷ gone) chain sides numbers there = cc
rows-placed m rows ends (h ∷ path) [] chain sides numbers there = cc
rows-placed m rows ends (h ∷ path) (g ∷ gone) [] sides numbers there = cc
rows-placed m rows ends (h ∷ path) (g ∷ gone) (a ∷ []) sides numbers there = cc
rows-placed m rows ends (h ∷ path) (g ∷ gone) (a ∷ b ∷ chain) sides numbers there =
    let own : g.row.number ≡ h.string = cc in
    let others : numbers_placed gone ≡ strings_of path = cc in
    let along = sym (row-side m rows ends g.row h own (All-at_each (HasHalves rows) m.strings g.row ends (there g (Contains-first g gone)))) ∙ first-of sides in
    let one = between-row g.row h g.place a b own along in
    let rest = rows-placed m rows ends path gone (b ∷ chain) (tail-of sides) others (λ k among. there k (Contains-later g gone k among)) in
    λ i. one i ∷ rest i

-- the places at which they stood
pub places-with : (path : List Half) (gone : List PlacedString) → length path ≡ length gone
    → map (λ (s : ChainString). s.place) (with_halves path gone) ≡ map (λ (g : PlacedString). g.place) gone
places-with [] [] many = refl
places-with [] (g ∷ gone) many = absurd (omega (arith, many))
places-with (h ∷ path) [] many = absurd (omega (arith, many))
places-with (h ∷ path) (g ∷ gone) many = λ i. g.place ∷ places-with path gone (omega (arith, many)) i

pub length-with : (path : List Half) (gone : List PlacedString) → length path ≡ length gone → length (with_halves path gone) ≡ length gone
length-with [] [] many = refl
length-with [] (g ∷ gone) many = absurd (omega (arith, many))
length-with (h ∷ path) [] many = absurd (omega (arith, many))
length-with (h ∷ path) (g ∷ gone) many = let rest = length-with path gone (omega (arith, many)) in omega (arith, rest)

-- rows of a map whose numbers are the same, in some order, are the same
pub rows-permuted : (m : Map) (each : EachPair (λ a b. ¬ (a ≡ b)) (map (λ (s : StringRow). s.number) m.strings)) (xs ys : List StringRow)
    → ((s : StringRow) → Contains xs s → Contains m.strings s) → ((s : StringRow) → Contains ys s → Contains m.strings s)
    → IsPermutation (numbers_of xs) (numbers_of ys) → IsPermutation xs ys
rows-permuted m each xs ys xs_there ys_there same =
    subst (λ (l : List StringRow). IsPermutation l ys) (looked xs xs_there)
    (subst (IsPermutation (map look (numbers_of xs))) (looked ys ys_there) (IsPermutation-map look (numbers_of xs) (numbers_of ys) same))
  where
    look : ℕ → StringRow
    look n = unwrap_or (string_of m n) (record { number = n; from = 0; to = 0; sources = [] })

    looked : (rows : List StringRow) → ((s : StringRow) → Contains rows s → Contains m.strings s) → map look (numbers_of rows) ≡ rows
    looked rows there =
        map-map look (λ (s : StringRow). s.number) rows
        ∙ map-cong (λ (s : StringRow). look s.number) (λ s. s) rows (λ s among.
        ap (λ (o : Option StringRow). unwrap_or o (record { number = s.number; from = 0; to = 0; sources = [] })) (row-found m.strings s each (there s among)))
        ∙ same-list rows
      where
        same-list : (rows : List StringRow) → map (λ (s : StringRow). s) rows ≡ rows
        same-list [] = refl
        same-list (s ∷ rows) = λ i. s ∷ same-list rows i
