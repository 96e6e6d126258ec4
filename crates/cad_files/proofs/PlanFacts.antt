-- One record more of a plan.
use Rattle.std.proofs.Common.{◌≡◌, ◌∙◌, ap, ℕ, ◌+◌, ◌-◌, ◌<◌, arith, List, [], ◌∷◌, ◌++◌}
use Rattle.std.proofs.lemmas.List.Sums.{fold-append}
use Rattle.cad_files.specs.Rows.{plan_limit}
use Rattle.cad_files.specs.Plan.{Plan, plan_of, plan_step, beginning}

pub plan_of-more : (rows : List (List (List ℕ))) (fields : List (List ℕ)) (p q : Plan) → plan_of rows ≡ p → plan_step p fields ≡ q → plan_of (rows ++ (fields ∷ [])) ≡ q
plan_of-more rows fields p q h e = fold-append plan_step beginning rows (fields ∷ []) ∙ ap (λ s. plan_step s fields) h ∙ e

-- the room for rows gets less
pub fewer_left : (old new : ℕ) → new ≡ old + 1 → old < plan_limit → plan_limit - new < plan_limit - old
fewer_left old new more room = omega arith
