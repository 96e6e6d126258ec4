use Rattle.std.proofs.Common.{◌≡◌}
use Rattle.std.specs.List.{Contains}
use Rattle.cell_grid.specs.declared.entry.HeldString.{HeldString}
use Rattle.base_cases.proofs.cells.is_candidate.Given as goal

-- none of the candidates so far is the one that is looked for
abbrev pub invariant-loop-other : goal.invariant-loop-other
invariant-loop-other l = (k : HeldString) → Contains l.yielded k → ¬ (k.string ≡ l.no)
