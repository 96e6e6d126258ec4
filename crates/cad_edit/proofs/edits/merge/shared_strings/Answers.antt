use Rattle.std.proofs.Common.{◌≡◌, ◌∙◌, refl, ap, sym, List, [], ◌∷◌, ◌++◌, map, filter, take}
use Rattle.std.specs.Prelude.{ℕ, if◌then◌else◌, Bool, true, false}
use Rattle.std.proofs.lemmas.List.{map-append}
use Rattle.cad_rows.specs.declared.rows.StringRow.{StringRow}
use Rattle.cad_map.specs.Merger.{is_shared}
use Rattle.cad_map.proofs.CallerLemmas.{filter-append}
use Rattle.cad_edit.proofs.StringRows.{take-found}
use Rattle.cad_edit.proofs.edits.merge.shared_strings.Goals as goal

one : (test : StringRow → Bool) (row : StringRow) → (if test row then row.number ∷ [] else []) ≡ map (λ (r : StringRow). r.number) (filter test (row ∷ []))
one test row = by (test row)
  where
    by : (b : Bool) → (if b then row.number ∷ [] else []) ≡ map (λ (r : StringRow). r.number) (if b then row ∷ [] else [])
    by true = refl
    by false = refl

pub loop-place-preserved : goal.loop-place-preserved
loop-place-preserved c =
    let strings = c.args.map.now.strings in
    let test = is_shared c.args.map.now c.args.kept.now c.args.ended.now in
    let i = c.loop-place.place in
    let row = c.unwrap-row.result.now in
    let at = sym (rw c.unwrap-row.ensures at c.string_at.ensures) in
    c.in_ok-push_number_if.ensures
    ∙ (λ j. c.loop-place.invariant j ++ (if c.is_shared.ensures j then row.number ∷ [] else []))
    ∙ ap (λ (l : List ℕ). map (λ r. r.number) (filter test (take i strings)) ++ l) (one test row)
    ∙ sym (map-append (λ (r : StringRow). r.number) (filter test (take i strings)) (filter test (row ∷ [])))
    ∙ ap (map (λ (r : StringRow). r.number)) (sym (filter-append test (take i strings) (row ∷ [])) ∙ ap (filter test) (sym (take-found strings i row at)))
