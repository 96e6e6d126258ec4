use Rattle.std.proofs.Common.{◌≡◌, length, take, filter}
use Rattle.std.specs.Prelude.{flat_map}
use Rattle.cad_rings.specs.Cycle.{sides_of}
use Rattle.cad_map.specs.Map.{rings_at}
use Rattle.cad_map.specs.Steps.{has_twin_in}
use Rattle.cad_map.proofs.shared_chain.shared_count.Given as goal

-- those of the sides of the rings so far
abbrev pub invariant-loop-place : goal.invariant-loop-place
invariant-loop-place g l =
    l.count ≡ length (filter (has_twin_in (g.M.MapView.map l.map) l.ended) (flat_map sides_of (take l.place (rings_at l.kept (g.M.MapView.rings l.map)))))
