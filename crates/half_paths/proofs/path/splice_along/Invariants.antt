use Rattle.std.proofs.Common.{◌≡◌, ◌∷◌, drop, length}
use Rattle.half_table.specs.Rows.{next, IsLinked}
use Rattle.half_table.specs.Surgery.{KeepsHalves}
use Rattle.half_table.specs.Count.{ticked}
use Rattle.half_paths.specs.Path.{AreIn}
use Rattle.half_paths.specs.Strung.{along}
use Rattle.half_paths.proofs.path.splice_along.Given as goal

-- the splices to come make what all of them make of the first table
abbrev pub invariant-loop-h : goal.invariant-loop-h
invariant-loop-h g l = record {
  along : along l.last (drop l.h-index l.rest) (next l.table.rows) ≡ along l.fn.first l.rest (next l.fn.table.rows);
  within : AreIn l.table.rows (l.last ∷ drop l.h-index l.rest);
  halves : KeepsHalves l.fn.table.rows l.table.rows;
  linked : IsLinked l.table.rows;
  work : ticked (length (drop l.h-index l.rest)) l.table.work ≡ ticked (length l.rest) l.fn.table.work;
}
