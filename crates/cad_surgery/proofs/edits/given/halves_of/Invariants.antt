use Rattle.std.proofs.Common.{◌≡◌, ◌++◌, drop, map}
use Rattle.half_table.specs.Half.{forward_of}
use Rattle.cad_surgery.proofs.edits.given.halves_of.Given as goal

-- the halves so far, and those of the other strings
abbrev pub invariant-loop-place : goal.invariant-loop-place
invariant-loop-place l =
    l.path.items ++ map forward_of (drop l.place l.fn.strings) ≡ map forward_of l.fn.strings
