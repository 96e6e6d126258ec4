use Rattle.std.proofs.Common.{◌≡◌, drop}
use Rattle.half_table.specs.Count.{ticked}
use Rattle.half_table.specs.Rows.{HalfRows, IsLinked}
use Rattle.half_paths.specs.Path.{AreIn}
use Rattle.map_parts.specs.Relabelled.{cycles_length, RelabelsEach}
use Rattle.map_parts.proofs.edits.faces.relabel_each.Given as goal

-- with the cycles that are still to come it is all
abbrev pub invariant-loop-half : goal.invariant-loop-half
invariant-loop-half g l = record {
  relabels : (new : HalfRows) → RelabelsEach (drop l.half-index l.halves) l.face l.table.rows new → RelabelsEach l.halves l.face l.fn.table.rows new;
  within : AreIn l.table.rows (drop l.half-index l.halves);
  linked : IsLinked l.table.rows;
  work : ticked (cycles_length l.table.rows (drop l.half-index l.halves)) l.table.work ≡ ticked (cycles_length l.fn.table.rows l.halves) l.fn.table.work;
}
