use Rattle.std.proofs.Common.{◌≡◌, ◌++◌, filter, take}
use Rattle.cad_map.specs.Outline.{is_outer}
use Rattle.cad_views.proofs.well_known.push_outlines.Given as goal

-- those of the rings up to the place are listed
abbrev pub invariant-loop-place : goal.invariant-loop-place
invariant-loop-place g l = l.listed.items ≡ l.fn.listed.items ++ filter (is_outer (g.M.MapView.map l.map) l.outer) (take l.place l.rings)
