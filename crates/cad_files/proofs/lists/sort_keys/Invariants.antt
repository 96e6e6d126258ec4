use Rattle.std.proofs.Common.{◌≡◌, take}
use Rattle.cad_files.proofs.lists.sort_keys.Given as goal

-- the numbers so far
abbrev pub invariant-loop-number : goal.invariant-loop-number
invariant-loop-number g l = l.keys.items ≡ take l.number-index l.list
