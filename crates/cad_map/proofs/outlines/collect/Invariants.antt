use Rattle.std.proofs.Common.{◌≡◌, take, map, filter}
use Rattle.cad_map.specs.Boundaries.{bounding}
use Rattle.cad_map.specs.Map.{rings_at}
use Rattle.cad_map.specs.Outline.{is_outer}
use Rattle.cad_map.proofs.outlines.collect.Given as goal

-- those of the rings so far that are asked for
abbrev pub invariant-loop-place : goal.invariant-loop-place
invariant-loop-place g l =
    l.boundaries.items ≡ map (bounding l.face) (filter (is_outer (g.M.MapView.map l.map) l.outer) (take l.place (rings_at l.face (g.M.MapView.rings l.map))))
