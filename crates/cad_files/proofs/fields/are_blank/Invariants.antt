use Rattle.std.proofs.Common.{◌≡◌, map, true, take}
use Rattle.cad_files.specs.Fields.{are_blank}
use Rattle.cad_files.proofs.fields.are_blank.Given as goal

abbrev pub invariant-loop-field : goal.invariant-loop-field
invariant-loop-field l = are_blank (map (λ f. f.now) (take l.field-index l.fields)) ≡ true
