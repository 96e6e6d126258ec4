use Rattle.std.proofs.Common.{◌≡◌, take}
use Rattle.geo_exact.specs.Inside.{is_inside}
use Rattle.cad_valid.proofs.shapes.PlacedRingEnclosing.has_inside.Given as goal

-- whether an odd number of the sides so far is counted
abbrev pub invariant-loop-a : goal.invariant-loop-a
invariant-loop-a l = l.inside ≡ is_inside (take l.a-index l.a-items) l.at
