use Rattle.std.proofs.Common.{◌≡◌, take, map}
use Rattle.cad_map.specs.Map.{rings_at, position_of}
use Rattle.cad_valid.specs.Shapes.{shape_of, told_apart}
use Rattle.cad_near.proofs.faces.shapes_of.Given as goal

-- the rings so far
abbrev pub invariant-loop-place : goal.invariant-loop-place
invariant-loop-place g l =
    l.shapes ≡ told_apart (map (shape_of (position_of (g.M.MapView.map l.map))) (take l.place (rings_at l.face (g.M.MapView.rings l.map))))
