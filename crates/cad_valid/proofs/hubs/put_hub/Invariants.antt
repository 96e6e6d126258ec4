use Rattle.std.proofs.Common.{◌≡◌, length}
use Rattle.cad_valid.specs.Hubs.{AreRegrouped}
use Rattle.cad_valid.proofs.hubs.put_hub.Given as goal

abbrev pub invariant-loop-spoke : goal.invariant-loop-spoke
invariant-loop-spoke l = record {
  count : length l.groups.items ≡ length l.fn.groups.items;
  each : AreRegrouped l.group l.spokes l.fn.groups.items l.groups.items;
}
