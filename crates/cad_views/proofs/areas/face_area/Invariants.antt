use Rattle.std.proofs.Common.{◌≡◌, take}
use Rattle.std.specs.Prelude.{flat_map}
use Rattle.geo_exact.specs.Measure.{doubled_area, sum_over}
use Rattle.cad_rings.specs.Cycle.{placed, sides_of}
use Rattle.cad_map.specs.Map.{position_of, rings_of}
use Rattle.cad_views.proofs.areas.face_area.Given as goal

-- the doubled areas of the sides of the rings so far, added up
abbrev pub invariant-loop-place : goal.invariant-loop-place
invariant-loop-place l = l.sum ≡ sum_over doubled_area (placed (position_of l.map) (flat_map sides_of (take l.place (rings_of l.map l.fn.face))))
