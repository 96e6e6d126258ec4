use Rattle.std.proofs.Common.{◌≡◌, drop}
use Rattle.std.specs.List.{list_any}
use Rattle.cad_map.specs.Map.{rings_at}
use Rattle.cad_map.specs.Steps.{has_chain_along}
use Rattle.cad_map.proofs.shared_chain.find_chain_of_sides.Given as goal

-- the rings that are left decide
abbrev pub invariant-loop-place : goal.invariant-loop-place
invariant-loop-place g l =
    let m = g.M.MapView.map l.map in
    let rings = rings_at l.kept (g.M.MapView.rings l.map) in
    list_any (has_chain_along m l.ended l.sides) rings ≡ list_any (has_chain_along m l.ended l.sides) (drop l.place rings)
