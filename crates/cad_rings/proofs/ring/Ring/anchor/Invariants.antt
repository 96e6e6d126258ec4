use Rattle.std.proofs.Common.{◌≡◌, min, take}
use Rattle.std.specs.Prelude.{fold, slice_index}
use Rattle.cad_rings.proofs.ring.Ring.anchor.Given as goal

-- the least of the points so far, and of the first
abbrev pub invariant-loop-point : goal.invariant-loop-point
invariant-loop-point l = l.least ≡ fold min (slice_index l.points 0) (take l.point-index l.points)
