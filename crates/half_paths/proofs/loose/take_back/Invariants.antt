use Rattle.std.proofs.Common.{◌≡◌, ◌++◌, ◌-◌, take, length}
use Rattle.half_table.specs.Count.{ticked}
use Rattle.half_table.specs.Rows.{HalfRows, IsLinked}
use Rattle.half_paths.specs.Loose.{loose_rows}
use Rattle.half_paths.proofs.loose.take_back.Given as goal

-- the strings that are left stand behind the first rows
abbrev pub invariant-loop-gone : goal.invariant-loop-gone
invariant-loop-gone g l = record {
  rows : (before : HalfRows) → l.fn.table.rows ≡ before ++ loose_rows l.strings → l.table.rows ≡ before ++ loose_rows (take (length l.strings - l.gone) l.strings);
  linked : IsLinked l.table.rows;
  work : l.table.work ≡ ticked l.gone l.fn.table.work;
}
