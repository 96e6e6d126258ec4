use Rattle.std.proofs.Common.{◌≡◌, ◌/◌, List, [], ◌∷◌, arith, length, ◌∙◌, ap, refl, max}
use Rattle.std.proofs.lemmas.Grind.{common_steps}
use Rattle.sweep.specs.declared.extent.Extent.{Extent}
use Rattle.sweep.specs.Extents.{height_of_rows}
use Rattle.sweep.proofs.extent.row_height.Goals as goal

-- of no boxes
height-none : (xs : List Extent) → length xs ≡ 0 → 64 ≡ height_of_rows xs
unfolding height_of_rows
height-none [] none = refl
height-none (x ∷ xs) none = absurd (omega arith)

pub returns-then-is_empty-clause-mean : goal.returns-then-is_empty-clause-mean
returns-then-is_empty-clause-mean c = height-none c.args.extents.now (grind (arith, common_steps))

pub returns-clause-mean : goal.returns-clause-mean
unfolding height_of_rows
returns-clause-mean c =
    c.max.ensures ∙ ap (λ n. max 64 (n / length c.args.extents.now)) c.sum_of_heights.ensures.sum
