use Rattle.std.proofs.Common.{◌≡◌, ◌≤◌, []}
use Rattle.csv.specs.Records.{fields_of, partial_of}
use Rattle.cad_session.proofs.PlainFacts.{IsCut}
use Rattle.cad_session.proofs.plain.cut_line.Given as goal

-- the fields up to the latest comma are in the row, and the machine stands in the field behind it
abbrev pub invariant-loop-place : goal.invariant-loop-place
invariant-loop-place l = record {
  from : l.start ≤ l.place;
  clean : partial_of l.row ≡ [];
  cut : IsCut l.text l.start l.place (fields_of l.row);
}
