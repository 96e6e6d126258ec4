use Rattle.std.proofs.Common.{◌≡◌, length}
use Rattle.cad_near.specs.Many.{AreGroupsIn}
use Rattle.cad_near.proofs.many.groups_of.Given as goal

abbrev pub invariant-loop-place : goal.invariant-loop-place
invariant-loop-place g l = record {
  count : length l.groups.items ≡ length l.items;
  groups : AreGroupsIn (g.M.MapView.map l.map) l.items l.groups.items;
}
