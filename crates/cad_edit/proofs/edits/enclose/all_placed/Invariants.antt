use Rattle.std.proofs.Common.{◌≡◌, take, map}
use Rattle.cad_map.specs.Division.{hole_placed}
use Rattle.cad_edit.proofs.edits.enclose.all_placed.Given as goal

-- the rings so far are placed
abbrev pub invariant-loop-boundary : goal.invariant-loop-boundary
invariant-loop-boundary l = l.placed.items ≡ map (hole_placed l.fn.map l.fn.face l.fn.new l.fn.ring) (take l.boundary-index l.fn.map.boundaries)
