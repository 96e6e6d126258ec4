use Rattle.std.proofs.Common.{◌≡◌, drop}
use Rattle.cad_map.specs.Chain.{are_distinct}
use Rattle.cad_edit.proofs.chains.differ_two_by_two.Given as goal

-- the numbers that are left decide
abbrev pub invariant-loop-place : goal.invariant-loop-place
invariant-loop-place g l = are_distinct l.numbers ≡ are_distinct (drop l.place l.numbers)
