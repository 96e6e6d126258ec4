use Rattle.std.proofs.Common.{◌≡◌, take, map}
use Rattle.cad_rings.specs.Cycle.{Ring, anchor_of}
use Rattle.cad_map.specs.Map.{rings_at, is_in_ring}
use Rattle.cad_surgery.proofs.edits.moved.insides_of_few.Given as goal

-- of the rings before this one
abbrev pub invariant-loop-place : goal.invariant-loop-place
invariant-loop-place g l = l.inside.items ≡ map (λ (r : Ring). is_in_ring (g.M.MapView.map l.map) l.ring (anchor_of r)) (take l.place (rings_at l.face (g.M.MapView.rings l.map)))
