use Rattle.std.proofs.Common.{◌≡◌, ◌++◌, take, drop, nat_eq}
use Rattle.std.specs.List.{IsDistinct}
use Rattle.half_table.specs.Count.{ticked}
use Rattle.half_table.specs.Rows.{HalfRows, IsLinked}
use Rattle.half_paths.specs.Loose.{numbers_of, AreNew, loose_rows, AddsStrings}
use Rattle.half_paths.proofs.loose.add_strings.Given as goal

-- the strings so far stand behind the first rows, and with those to come they are all
abbrev pub invariant-loop-place : goal.invariant-loop-place
invariant-loop-place g l = record {
  rows : l.table.rows ≡ l.fn.table.rows ++ loose_rows (take l.place l.strings);
  adds : (new : HalfRows) → AddsStrings (drop l.place l.strings) l.table.rows new → AddsStrings l.strings l.fn.table.rows new;
  new : AreNew l.table.rows (drop l.place l.strings);
  different : IsDistinct nat_eq (numbers_of (drop l.place l.strings));
  linked : IsLinked l.table.rows;
  work : l.table.work ≡ ticked l.place l.fn.table.work;
}
