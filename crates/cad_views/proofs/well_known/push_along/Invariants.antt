use Rattle.std.proofs.Common.{◌≡◌, ◌++◌, map, take}
use Rattle.std.specs.List.{join_with_byte}
use Rattle.cad_map.specs.Map.{position_of}
use Rattle.cad_views.specs.WellKnown.{coordinates}
use Rattle.cad_views.proofs.well_known.push_along.Given as goal

-- the coordinates of the points up to the place are appended
abbrev pub invariant-loop-place : goal.invariant-loop-place
invariant-loop-place g l = l.text.items ≡ l.fn.text.items ++ join_with_byte 44 (map (λ p. coordinates (position_of (g.M.MapView.map l.map) p)) (take l.place l.points))
