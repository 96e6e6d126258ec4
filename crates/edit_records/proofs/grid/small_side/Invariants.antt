use Rattle.std.proofs.Common.{◌≤◌, ◌*◌}
use Rattle.edit_records.proofs.grid.small_side.Given as goal

-- each of them was no longer than the map is wide
abbrev pub invariant-loop-turn : goal.invariant-loop-turn
invariant-loop-turn l = record {
  total : l.total ≤ l.turn * 20000000000;
  measured : l.measured ≤ l.turn;
}
