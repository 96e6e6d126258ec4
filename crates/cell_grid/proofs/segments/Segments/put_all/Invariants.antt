use Rattle.std.proofs.Common.{take}
use Rattle.cell_grid.specs.Kept.{kept, AreSpread}
use Rattle.cell_grid.specs.Together.{HoldsMore}
use Rattle.cell_grid.proofs.segments.Segments.put_all.Given as goal

-- the first of them are in
abbrev pub invariant-loop-place : goal.invariant-loop-place
invariant-loop-place l = record {
  spread : AreSpread l.self;
  put : HoldsMore (kept l.initial.self) (take l.place l.entries) (kept l.self);
}
