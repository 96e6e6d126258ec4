use Rattle.std.proofs.Common.{◌≡◌, take, map, filter, not}
use Rattle.cad_rings.specs.Cycle.{has_side, sides_of}
use Rattle.cad_map.specs.Chain.{leaving}
use Rattle.cad_map.specs.Division.{hole_placed}
use Rattle.cad_edit.proofs.edits.divide.others_placed.Given as goal

-- the others of the rings so far are placed
abbrev pub invariant-loop-boundary : goal.invariant-loop-boundary
invariant-loop-boundary l =
    l.placed.items ≡ map (hole_placed l.fn.map l.fn.face l.fn.new l.fn.ring) (filter (λ b. not (has_side (leaving l.fn.corner) (sides_of b.ring))) (take l.boundary-index l.fn.map.boundaries))
