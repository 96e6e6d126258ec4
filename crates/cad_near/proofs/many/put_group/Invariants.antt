use Rattle.std.proofs.Common.{◌≡◌, length}
use Rattle.cad_near.specs.Many.{AreRegroupedIn}
use Rattle.cad_near.proofs.many.put_group.Given as goal

abbrev pub invariant-loop-place : goal.invariant-loop-place
invariant-loop-place l = record {
  count : length l.groups.items ≡ length l.fn.groups.items;
  each : AreRegroupedIn l.point l.items l.fn.groups.items l.groups.items;
}
