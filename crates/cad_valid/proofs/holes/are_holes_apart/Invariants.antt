use Rattle.std.proofs.Common.{◌≡◌, drop}
use Rattle.cad_map.specs.Valid.{each_pair}
use Rattle.cad_valid.specs.Holes.{are_apart_if_holes}
use Rattle.cad_map.specs.Map.{rings_at}
use Rattle.cad_valid.proofs.holes.are_holes_apart.Given as goal

-- the rings that are left decide
abbrev pub invariant-loop-place : goal.invariant-loop-place
invariant-loop-place g l =
    let m = g.M.MapView.map l.map in
    let rings = rings_at l.face (g.M.MapView.rings l.map) in
    each_pair (are_apart_if_holes m) rings ≡ each_pair (are_apart_if_holes m) (drop l.place rings)
