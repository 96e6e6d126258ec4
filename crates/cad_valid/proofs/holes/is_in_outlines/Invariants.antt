use Rattle.std.proofs.Common.{◌≡◌, drop}
use Rattle.std.specs.List.{list_all}
use Rattle.cad_valid.specs.Holes.{has_inside_if_outline}
use Rattle.cad_map.specs.Map.{rings_at}
use Rattle.cad_valid.proofs.holes.is_in_outlines.Given as goal

-- the rings that are left decide
abbrev pub invariant-loop-place : goal.invariant-loop-place
invariant-loop-place g l =
    let m = g.M.MapView.map l.map in
    let rings = rings_at l.face (g.M.MapView.rings l.map) in
    list_all (has_inside_if_outline m l.point) rings ≡ list_all (has_inside_if_outline m l.point) (drop l.place rings)
