use Rattle.std.proofs.Common.{take, map}
use Rattle.cad_views.specs.Cut.{AreCutFrom}
use Rattle.cad_map.specs.declared.boundary.Boundary.{Boundary}
use Rattle.cad_views.proofs.cut.cut_rings.Given as goal

-- the rings up to the place are cut
abbrev pub invariant-loop-place : goal.invariant-loop-place
invariant-loop-place l = AreCutFrom (take l.place (map (λ (b : Boundary). b.ring) l.rings)) l.pieces.items
