use Rattle.std.proofs.Common.{◌≡◌, All, false, take}
use Rattle.cad_files.specs.Fields.{is_space}
use Rattle.cad_files.proofs.lists.first_part.Given as goal

abbrev pub invariant-loop-i : goal.invariant-loop-i
invariant-loop-i l = All (λ b. is_space b ≡ false) (take l.i l.text)
