use Rattle.std.proofs.Common.{◌≡◌, ◌≢◌, ◌∙◌, ◌++◌, ◌∷◌, [], ap, sym, subst, refl, map, ℕ, List}
use Rattle.cad_map.proofs.Lists.Entries.{take-more}
use Rattle.cad_map.proofs.Lists.EachElement.{map-push}
use Rattle.cad_map.proofs.Lists.RowsInTurn.{row_with-earlier}
use Rattle.numbered_rows.specs.Rows.{row_with}
use Rattle.cad_map.specs.Valid.{EachPair}
use Rattle.cad_map.specs.declared.map_rows.RetiredRow.{RetiredRow}
use Rattle.numbered_rows.specs.Rows.{rows_in}
use Rattle.numbered_rows.proofs.ByNumbers.{none-by_numbers}
use Rattle.cad_map.proofs.map_rows.retired_rows.Goals as goal

map-itself : (xs : List ℕ) → map (λ (n : ℕ). n) xs ≡ xs
map-itself [] = refl
map-itself (x ∷ xs) = ap (λ (l : List ℕ). x ∷ l) (map-itself xs)

pub push-requires : goal.push-requires
push-requires c =
    let at = rw c.unwrap-number.ensures at c.get.ensures in
    let retired = c.args.retired.now in
    let distinct = subst (EachPair (λ a b. a ≢ b)) (sym (map-itself retired)) c.requires in
    none-by_numbers (λ (r : RetiredRow). r.number) c.unwrap-number.result (rows_in c.loop-place.rows)
    (ap (row_with (λ (n : ℕ). n) c.unwrap-number.result) c.loop-place.invariant
    ∙ row_with-earlier (λ (n : ℕ). n) retired c.loop-place.place c.unwrap-number.result distinct (sym at))

pub loop-place-preserved : goal.loop-place-preserved
loop-place-preserved c =
    let at = rw c.unwrap-number.ensures at c.get.ensures in
    let n = c.unwrap-number.result in
    ap (map (λ (r : RetiredRow). r.number)) c.in_ok-push.ensures.ok
    ∙ map-push (λ (r : RetiredRow). r.number) (rows_in c.loop-place.rows) (record { number = n })
    ∙ ap (λ (l : List ℕ). l ++ n ∷ []) c.loop-place.invariant
    ∙ take-more c.args.retired.now c.loop-place.place n (sym at)
