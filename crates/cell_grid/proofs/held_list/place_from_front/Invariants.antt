use Rattle.std.proofs.Common.{◌≡◌, ℕ, ◌<◌, get_or, length}
use Rattle.cell_grid.proofs.held_list.place_from_front.Given as goal

-- it is none of those that were looked at
abbrev pub invariant-loop-place : goal.invariant-loop-place
invariant-loop-place l =
    (k : ℕ) → k < length l.list → k < l.place → ¬ (get_or l.list k l.entry ≡ l.entry)
