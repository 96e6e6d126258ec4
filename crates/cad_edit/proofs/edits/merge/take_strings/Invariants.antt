use Rattle.std.proofs.Common.{◌≡◌, drop, fold}
use Rattle.numbered_rows.specs.Rows.{without_row}
use Rattle.cad_edit.proofs.edits.merge.take_strings.Given as goal

abbrev pub invariant-loop-no : goal.invariant-loop-no
invariant-loop-no l = record {
  others : l.map ≡ record l.fn.map { strings = l.map.strings };
  left : fold (λ rows no. without_row (λ r. r.number) no rows) l.map.strings (drop l.no-index l.numbers) ≡ fold (λ rows no. without_row (λ r. r.number) no rows) l.fn.map.strings l.numbers;
}
