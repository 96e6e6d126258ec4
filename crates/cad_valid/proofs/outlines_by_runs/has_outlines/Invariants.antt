use Rattle.std.proofs.Common.{◌≡◌}
use Rattle.cad_map.specs.Map.{rings_of}
use Rattle.cad_valid.specs.Outlines.{outlines_among}
use Rattle.cad_valid.proofs.OutlineCounts.{areas_before}
use Rattle.cad_valid.proofs.outlines_by_runs.has_outlines.Given as goal

-- the count of the rings so far
abbrev pub invariant-loop-boundary : goal.invariant-loop-boundary
invariant-loop-boundary l = l.outlines ≡ outlines_among (areas_before l.map (rings_of l.map l.fn.face) l.boundary-index)
