use Rattle.std.proofs.Common.{◌≡◌, ◌++◌, map, take}
use Rattle.std.specs.List.{join_with_byte}
use Rattle.cad_views.specs.WellKnown.{ring_text}
use Rattle.cad_views.proofs.well_known.push_rings.Given as goal

-- the rings up to the place are appended
abbrev pub invariant-loop-place : goal.invariant-loop-place
invariant-loop-place g l = l.text.items ≡ l.fn.text.items ++ join_with_byte 44 (map (ring_text (g.M.MapView.map l.map)) (take l.place l.rings))
