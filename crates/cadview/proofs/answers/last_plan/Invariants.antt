use Rattle.std.proofs.Common.{◌≤◌, length}
use Rattle.cadview.proofs.answers.last_plan.Given as goal

-- the place found last is one of the text
abbrev pub invariant-loop-place : goal.invariant-loop-place
invariant-loop-place l = l.last ≤ length l.text
