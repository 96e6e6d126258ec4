use Rattle.std.proofs.Common.{◌≡◌, not, filter, take}
use Rattle.cad_rings.specs.Cycle.{has_side, sides_of}
use Rattle.cad_laws.specs.Local.{side_by}
use Rattle.cad_surgery.proofs.edits.crossing.halves_off.Given as goal

-- those of the halves so far
abbrev pub invariant-loop-place : goal.invariant-loop-place
invariant-loop-place g l =
    l.off.items ≡ filter (λ h. not (has_side (side_by l.fn.draft.table.rows h) (sides_of l.fn.ring))) (take l.place l.fn.halves)
