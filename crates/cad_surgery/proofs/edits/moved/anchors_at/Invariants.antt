use Rattle.std.proofs.Common.{◌≡◌, take, map}
use Rattle.cad_rings.specs.Cycle.{Ring, anchor_of}
use Rattle.cad_map.specs.Map.{rings_at, position_of}
use Rattle.cad_surgery.proofs.edits.moved.anchors_at.Given as goal

-- of the rings before this one
abbrev pub invariant-loop-place : goal.invariant-loop-place
invariant-loop-place g l = l.anchors.items ≡ map (λ (r : Ring). position_of (g.M.MapView.map l.map) (anchor_of r)) (take l.place (rings_at l.face (g.M.MapView.rings l.map)))
