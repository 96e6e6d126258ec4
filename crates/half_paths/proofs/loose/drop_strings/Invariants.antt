use Rattle.std.proofs.Common.{◌≡◌, drop, length}
use Rattle.half_table.specs.Count.{ticked}
use Rattle.half_table.specs.Rows.{HalfRows, next, IsLinked}
use Rattle.half_paths.specs.Path.{AreIn, AreDifferent}
use Rattle.half_paths.specs.Loose.{AreLoose, DropsStrings}
use Rattle.half_paths.proofs.loose.drop_strings.Given as goal

-- what is still to be taken out is there and loose, and with what is gone it is all
abbrev pub invariant-loop-h : goal.invariant-loop-h
invariant-loop-h g l = record {
  drops : (new : HalfRows) → DropsStrings (drop l.h-index l.halves) l.table.rows new → DropsStrings l.halves l.fn.table.rows new;
  within : AreIn l.table.rows (drop l.h-index l.halves);
  different : AreDifferent (drop l.h-index l.halves);
  loose : AreLoose (next l.table.rows) (drop l.h-index l.halves);
  linked : IsLinked l.table.rows;
  work : ticked (length (drop l.h-index l.halves)) l.table.work ≡ ticked (length l.halves) l.fn.table.work;
}
