use Rattle.std.proofs.Common.{◌≡◌, ◌++◌}
use Rattle.geo_exact.specs.Inside.{is_inside}
use Rattle.cad_rings.specs.Cycle.{placed, sides_of}
use Rattle.cad_rings.specs.SidesLeft.{sides_left}
use Rattle.cad_map.specs.Map.{position_of}
use Rattle.cad_edit.proofs.placing.is_in_ring.Given as goal

-- whether an odd number of the sides so far is counted
abbrev pub invariant-loop-from : goal.invariant-loop-from
invariant-loop-from g l = record {
  whole : l.yielded ++ sides_left l.from-iterator ≡ sides_of l.ring;
  value : l.inside ≡ is_inside (placed (position_of (g.M.MapView.map l.map)) l.yielded) l.at;
}
