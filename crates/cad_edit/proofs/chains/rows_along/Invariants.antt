use Rattle.std.proofs.Common.{◌≡◌, [], ◌∷◌, ◌++◌, drop}
use Rattle.cad_map.specs.Chain.{strings_along}
use Rattle.cad_edit.proofs.chains.rows_along.Given as goal

-- the rows so far, and those along the rest of the chain
abbrev pub invariant-loop-place : goal.invariant-loop-place
invariant-loop-place l =
    l.rows.items ++ strings_along (l.fn.source ∷ []) (drop l.place l.fn.strings) (drop l.place l.fn.chain) ≡ strings_along (l.fn.source ∷ []) l.fn.strings l.fn.chain
