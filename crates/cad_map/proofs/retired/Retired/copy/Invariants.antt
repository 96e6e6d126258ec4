use Rattle.std.proofs.Common.{◌≡◌, take}
use Rattle.cad_map.proofs.retired.Retired.copy.Given as goal

-- the numbers up to the place are copied
abbrev pub invariant-loop-place : goal.invariant-loop-place
invariant-loop-place l = l.copied ≡ take l.place l.self
