use Rattle.std.proofs.Common.{◌≡◌, ℕ, ◌+◌, ◌<◌, get_or, length}
use Rattle.cell_grid.proofs.held_list.place_around.Given as goal

-- it is none of those that stand nearer to the start
abbrev pub invariant-loop-distance : goal.invariant-loop-distance
invariant-loop-distance l =
    (k : ℕ) → k < length l.list → k < l.start + l.distance → l.start < k + l.distance
    → ¬ (get_or l.list k l.entry ≡ l.entry)
