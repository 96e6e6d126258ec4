use Rattle.std.proofs.Common.{◌≡◌}
use Rattle.cad_rings.specs.Cycle.{placed}
use Rattle.cad_map.specs.Map.{position_of}
use Rattle.cad_surgery.proofs.edits.moved.placed_sides.Given as goal

-- of the sides before this one
abbrev pub invariant-loop-from : goal.invariant-loop-from
invariant-loop-from g l = l.sides.items ≡ placed (position_of (g.M.MapView.map l.map)) l.yielded
