use Rattle.std.proofs.Common.{◌≡◌, filter, take}
use Rattle.map_parts.specs.Handing.{home_of}
use Rattle.map_parts.specs.Parts.{map_of, kept_at}
use Rattle.map_parts.specs.Placed.{moves_in}
use Rattle.cad_surgery.proofs.edits.moved.moved_halves.Given as goal

-- those of the halves so far
abbrev pub invariant-loop-place : goal.invariant-loop-place
invariant-loop-place g l =
    l.halves.items ≡ filter (λ h. moves_in (map_of l.fn.draft) l.fn.face l.fn.ring (home_of (map_of l.fn.draft) l.fn.draft.table.rows h))
    (take l.place (kept_at l.fn.draft l.fn.face))
