use Rattle.std.proofs.Common.{◌≡◌, ◌++◌, drop, filter, not}
use Rattle.half_table.specs.Cycle.{holds}
use Rattle.cad_surgery.proofs.edits.shared.halves_beside.Given as goal

-- those of the halves so far, and those of the others
abbrev pub invariant-loop-place : goal.invariant-loop-place
invariant-loop-place l =
    l.left.items ++ filter (λ h. not (holds l.fn.path h)) (drop l.place l.fn.halves) ≡ filter (λ h. not (holds l.fn.path h)) l.fn.halves
