use Rattle.std.proofs.Common.{◌≡◌, drop}
use Rattle.half_paths.specs.Path.{last_of}
use Rattle.half_paths.proofs.rerouting.last_half.Given as goal

-- the last of what is left is the last of all
abbrev pub invariant-loop-h : goal.invariant-loop-h
invariant-loop-h l = last_of l.last (drop l.h-index l.rest) ≡ last_of l.fn.first l.rest
