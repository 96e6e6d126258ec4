use Rattle.std.proofs.Common.{◌≡◌, ◌++◌, drop}
use Rattle.cad_surgery.specs.ToldMergers.{halves_of}
use Rattle.cad_surgery.proofs.edits.merged.path_of.Given as goal

-- the halves so far, and those of the others
abbrev pub invariant-loop-place : goal.invariant-loop-place
invariant-loop-place l = l.path.items ++ halves_of (drop l.place l.fn.strings) ≡ halves_of l.fn.strings
