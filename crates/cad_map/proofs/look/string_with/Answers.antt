use Rattle.std.proofs.Common.{◌≡◌, ◌∙◌, ◌-◌, ℕ, zero, suc, sym, refl, ap, arith, List, ◌∷◌}
use Rattle.std.specs.Prelude.{slice_get}
use Rattle.cad_rows.specs.declared.rows.StringRow.{StringRow}
use Rattle.numbered_rows.specs.Rows.{rows_in}
use Rattle.cad_map.specs.Map.{is_end as is_end_of}
use Rattle.cad_map.proofs.Lists.EachElement.{filter-at, filter-past}
use Rattle.cad_map.proofs.look.string_with.Goals as goal
use Rattle.cad_map.proofs.look.string_with.Goals.{then-is_end+else-left-eq0, else-is_end}

slice_get-behind : {X : Type 0} (x : X) (xs : List X) (place : ℕ) → (place ≡ 0 → ⊥) → slice_get xs (place - 1) ≡ slice_get (x ∷ xs) place
slice_get-behind x xs zero more = absurd (more refl)
slice_get-behind x xs (suc place) more = let less : suc place - 1 ≡ place = omega arith in ap (slice_get xs) less

pub returns-then-left-eq0 : goal.returns-then-left-eq0
returns-then-left-eq0 c =
    let test = λ (s : StringRow). is_end_of s c.args.point in
    let here = filter-at test (rows_in c.args.strings.now) c.loop-at.at c.unwrap-row.result.now
    (sym (rw c.unwrap-row.ensures at c.at.ensures)) (sym c.is_end.ensures ∙ c.if-is_end.true) in
    sym (ap (λ (rows : List StringRow). slice_get rows c.loop-at.left) here ∙ simp (c.if-left-eq0.true)) ∙ c.loop-at.invariant

pub loop-at-preserved : goal.loop-at-preserved
loop-at-preserved c =
    let test = λ (s : StringRow). is_end_of s c.args.point in
    let strings = rows_in c.args.strings.now in
    let row = c.unwrap-row.result.now in
    let there = sym (rw c.unwrap-row.ensures at c.at.ensures) in
    elim c.if-is_end.branch [
      | then-is_end+else-left-eq0 w ↦
          rw (w.left-is, slice_get-behind row _ c.loop-at.left w.if-left-eq0.false)
          (ap (λ (rows : List StringRow). slice_get rows c.loop-at.left)
          (sym (filter-at test strings c.loop-at.at row there (sym c.is_end.ensures ∙ w.if-is_end.true))) ∙ c.loop-at.invariant)
      | else-is_end w ↦
          rw w.left-is
          (ap (λ (rows : List StringRow). slice_get rows c.loop-at.left)
          (sym (filter-past test strings c.loop-at.at row there (sym c.is_end.ensures ∙ w.if-is_end.false))) ∙ c.loop-at.invariant)
    ]
