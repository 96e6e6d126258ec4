use Rattle.std.proofs.Common.{◌≡◌}
use Rattle.cad_map.specs.Map.{rings_at}
use Rattle.cad_valid.specs.Outlines.{outlines_among}
use Rattle.cad_valid.proofs.OutlineCounts.{areas_before}
use Rattle.cad_valid.proofs.outlines.has_outlines.Given as goal

-- the count of the rings so far
abbrev pub invariant-loop-place : goal.invariant-loop-place
invariant-loop-place g l =
    l.outlines ≡ outlines_among (areas_before (g.M.MapView.map l.map) (rings_at l.face (g.M.MapView.rings l.map)) l.place)
