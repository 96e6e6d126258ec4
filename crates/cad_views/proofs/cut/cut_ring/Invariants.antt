use Rattle.std.proofs.Common.{take}
use Rattle.cad_views.specs.Walked.{IsWalked}
use Rattle.cad_views.proofs.cut.cut_ring.Given as goal

-- the points up to the place were walked along
abbrev pub invariant-loop-place : goal.invariant-loop-place
invariant-loop-place l = IsWalked (take l.place l.points) l.path.keys l.pieces.items
