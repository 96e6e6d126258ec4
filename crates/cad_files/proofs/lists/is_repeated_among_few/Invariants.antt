use Rattle.std.proofs.Common.{◌≡◌, [], take, drop}
use Rattle.cad_files.specs.Fields.{repeated}
use Rattle.cad_files.proofs.lists.is_repeated_among_few.Given as goal

abbrev pub invariant-loop-i : goal.invariant-loop-i
invariant-loop-i g l = repeated (take l.i l.list) (drop l.i l.list) ≡ repeated [] l.list
