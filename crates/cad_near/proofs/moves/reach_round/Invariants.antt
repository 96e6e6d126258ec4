use Rattle.std.proofs.Common.{take}
use Rattle.std.specs.List.{AllByRecursion}
use Rattle.cad_near.specs.Seen.{IsInReach}
use Rattle.cad_near.proofs.moves.reach_round.Given as goal

-- the point, where it lay, and the ends so far lie in the box
abbrev pub invariant-loop-ray : goal.invariant-loop-ray
invariant-loop-ray l = record {
  at : IsInReach l.reach l.fn.at;
  from : IsInReach l.reach l.fn.from;
  rays : AllByRecursion (λ r. IsInReach l.reach r.position) (take l.ray-index l.rays);
}
