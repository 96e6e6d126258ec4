use Rattle.std.proofs.Common.{◌≡◌, ◌++◌, drop}
use Rattle.half_paths.specs.Path.{strings_of}
use Rattle.cad_surgery.proofs.edits.shared.numbers_of.Given as goal

-- the numbers so far, and those of the others
abbrev pub invariant-loop-place : goal.invariant-loop-place
invariant-loop-place l = l.numbers.items ++ strings_of (drop l.place l.fn.path) ≡ strings_of l.fn.path
