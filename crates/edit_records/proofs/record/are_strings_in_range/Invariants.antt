use Rattle.std.proofs.Common.{take}
use Rattle.std.specs.List.{AllByRecursion}
use Rattle.cad_rows.specs.Limits.{IsNumber}
use Rattle.edit_records.proofs.record.are_strings_in_range.Given as goal

abbrev pub invariant-loop-string : goal.invariant-loop-string
invariant-loop-string l = AllByRecursion IsNumber (take l.string-index l.strings)
