use Rattle.std.proofs.Common.{take}
use Rattle.cad_views.specs.Cut.{AreCutFrom}
use Rattle.cad_views.proofs.cut.cut_each.Given as goal

-- the rings up to the place are cut
abbrev pub invariant-loop-place : goal.invariant-loop-place
invariant-loop-place l = AreCutFrom (take l.place l.rings) l.pieces.items
