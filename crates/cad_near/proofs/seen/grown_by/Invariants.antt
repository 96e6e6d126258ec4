use Rattle.std.proofs.Common.{take}
use Rattle.std.specs.List.{AllByRecursion}
use Rattle.geo_exact.specs.Position.{Position}
use Rattle.cad_near.specs.Seen.{IsInReach, HasInReach}
use Rattle.cad_near.proofs.seen.grown_by.Given as goal

-- those so far lie in the box, and so does all that lay in the first
abbrev pub invariant-loop-item : goal.invariant-loop-item
invariant-loop-item l = record {
  all : AllByRecursion (HasInReach l.grown_so_far) (take l.item-index l.items);
  kept : (q : Position) → IsInReach l.fn.reach q → IsInReach l.grown_so_far q;
}
