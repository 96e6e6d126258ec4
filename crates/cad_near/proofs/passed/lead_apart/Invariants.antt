use Rattle.std.proofs.Common.{take}
use Rattle.cad_map.specs.Valid.{EachPair}
use Rattle.cad_near.specs.Triangles.{LeadApart}
use Rattle.cad_near.proofs.passed.lead_apart.Given as goal

-- the rays so far lead to different points
abbrev pub invariant-loop-place : goal.invariant-loop-place
invariant-loop-place l = EachPair LeadApart (take l.place l.rays)
