use Rattle.std.proofs.Common.{◌≡◌, ◌<◌, ℕ, true, Some, length, map, get_or, slice_get}
use Rattle.cad_files.proofs.RepeatFacts.{Differ}
use Rattle.cad_files.proofs.repeats.go_on_apart.Given as goal

abbrev pub invariant-loop-i : goal.invariant-loop-i
invariant-loop-i l = record {
  count : length l.is_reached.items ≡ length l.sides;
  marked : (k : ℕ) → k < l.i → slice_get l.is_reached.items (get_or (map (λ s. s.next) l.sides) k 0) ≡ Some true;
  apart : Differ (map (λ s. s.next) l.sides) l.i;
}
