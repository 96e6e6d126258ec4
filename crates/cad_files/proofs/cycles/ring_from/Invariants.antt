use Rattle.std.proofs.Common.{◌≡◌, length}
use Rattle.std.specs.List.{Contains}
use Rattle.cad_files.specs.Cycles.{followed_side}
use Rattle.cad_files.proofs.CycleFacts.{IsOnWay}
use Rattle.cad_files.proofs.cycles.ring_from.Given as goal

abbrev pub invariant-loop-next : goal.invariant-loop-next
invariant-loop-next l = record {
  way : IsOnWay (followed_side l.fn.first) l.fn.rest.left l.points.items (followed_side l.last) l.rest.left;
  among : Contains l.rest.all l.last;
  all : l.rest.all ≡ l.fn.rest.all;
}

abbrev pub decreases-loop-next : goal.decreases-loop-next
decreases-loop-next l = length l.rest.left
