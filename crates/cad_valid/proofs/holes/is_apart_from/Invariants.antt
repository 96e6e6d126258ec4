use Rattle.std.proofs.Common.{◌≡◌, ◌+◌, drop}
use Rattle.std.specs.List.{list_all}
use Rattle.cad_map.specs.Rings.{ring_at}
use Rattle.cad_valid.specs.Holes.{is_apart_if_hole}
use Rattle.cad_map.specs.Map.{rings_at}
use Rattle.cad_valid.proofs.holes.is_apart_from.Given as goal

-- the rings that are left decide
abbrev pub invariant-loop-other : goal.invariant-loop-other
invariant-loop-other g l =
    let m = g.M.MapView.map l.map in
    let rings = rings_at l.face (g.M.MapView.rings l.map) in
    let apart = is_apart_if_hole m (ring_at (g.M.MapView.rings l.map) l.face l.place) in
    list_all apart (drop (l.place + 1) rings) ≡ list_all apart (drop l.other rings)
