use Rattle.std.proofs.Common.{◌≡◌, ◌++◌, length}
use Rattle.std.specs.Prelude.{option_map}
use Rattle.std.specs.List.{slice_split}
use Rattle.cad_files.specs.Fields.{all_numbers, is_space}
use Rattle.cad_files.proofs.lists.untold_list.Given as goal

abbrev pub invariant-loop-number : goal.invariant-loop-number
invariant-loop-number g l = all_numbers (slice_split is_space l.text) ≡ option_map (λ ns. l.numbers ++ ns) (all_numbers (slice_split is_space l.rest))

abbrev pub decreases-loop-number : goal.decreases-loop-number
decreases-loop-number g l = length l.rest
