use Rattle.std.proofs.Common.{◌≡◌, ◌+◌, length}
use Rattle.key_lists.specs.Held.{items_at, capacity_at, KeepsOthers}
use Rattle.map_parts.proofs.edits.handing.clear.Given as goal

abbrev pub invariant-loop-gone : goal.invariant-loop-gone
invariant-loop-gone l = record {
  left : length (items_at l.kept l.key) + l.gone ≡ length (items_at l.fn.kept l.key);
  others : KeepsOthers l.key l.fn.kept l.kept;
  capacity : capacity_at l.kept l.key ≡ capacity_at l.fn.kept l.key;
}
