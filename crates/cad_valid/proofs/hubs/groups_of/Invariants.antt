use Rattle.std.proofs.Common.{◌≡◌, length}
use Rattle.cad_valid.specs.Hubs.{AreGroupsOf}
use Rattle.cad_valid.proofs.hubs.groups_of.Given as goal

abbrev pub invariant-loop-place : goal.invariant-loop-place
invariant-loop-place l = record {
  count : length l.groups.items ≡ l.count;
  groups : AreGroupsOf l.map l.groups.items;
}
