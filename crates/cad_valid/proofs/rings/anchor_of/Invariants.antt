use Rattle.std.proofs.Common.{◌≡◌, min, fold, map}
use Rattle.cad_valid.proofs.rings.anchor_of.Given as goal

-- the least of the points so far
abbrev pub invariant-loop-point : goal.invariant-loop-point
invariant-loop-point g l = l.least ≡ fold min l.initial.least (map (λ s. s.0) l.yielded)
