use Rattle.std.proofs.Common.{◌≡◌, drop}
use Rattle.cad_rings.specs.Positions.{IsPlaced, position_in}
use Rattle.cad_rings.proofs.ring.sum.position_of.Given as goal

-- the first entry of the point is ahead
abbrev pub invariant-loop-number : goal.invariant-loop-number
invariant-loop-number l = record {
  ahead : IsPlaced (drop l.number-index l.positions) l.point;
  same : position_in (drop l.number-index l.positions) l.point ≡ position_in l.positions l.point;
}
