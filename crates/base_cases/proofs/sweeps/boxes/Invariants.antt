use Rattle.std.proofs.Common.{◌≡◌, length}
use Rattle.sweep.specs.Extents.{HasExtents}
use Rattle.base_cases.proofs.sweeps.boxes.Given as goal

abbrev pub invariant-loop-left : goal.invariant-loop-left
invariant-loop-left l = record {
  extents : HasExtents l.boxes.items;
  count : length l.boxes.items ≡ l.left-index;
}
