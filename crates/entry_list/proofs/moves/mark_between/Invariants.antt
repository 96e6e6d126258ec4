use Rattle.std.proofs.Common.{◌≡◌, ◌<◌, ℕ, length, get_or}
use Rattle.entry_list.specs.Slots.{marks_of}
use Rattle.entry_list.proofs.moves.mark_between.Given as goal

abbrev pub invariant-loop-slot : goal.invariant-loop-slot
invariant-loop-slot g l = record {
  size : length l.live ≡ length l.slots;
  before : (k : ℕ) → k < l.slot → get_or l.live k 0 ≡ get_or (marks_of l.slots) k 0;
  behind : (k : ℕ) → l.last < k → get_or l.live k 0 ≡ get_or (marks_of l.slots) k 0;
}
