use Rattle.std.proofs.Common.{◌∙◌}
use Rattle.cad_valid.proofs.hubs.groups_of.Goals.{then-ends-ge-HUB+in_ok-put_star, else-ends-ge-HUB}
use Rattle.cad_valid.proofs.hubs.groups_of.Goals as goal

pub loop-place-preserved : goal.loop-place-preserved
loop-place-preserved c = elim c.if-ends-ge-HUB.branch [
  | then-ends-ge-HUB+in_ok-put_star w ↦ record {
    count = rw w.groups-is (w.in_ok-put_star.ensures.count ∙ c.loop-place.invariant.count);
    groups = rw w.groups-is w.in_ok-put_star.ensures.groups;
  }
  | else-ends-ge-HUB w ↦ record {
    count = rw w.groups-is c.loop-place.invariant.count;
    groups = rw w.groups-is c.loop-place.invariant.groups;
  }
]
