use Rattle.std.proofs.Common.{refl}
use Rattle.cell_grid.proofs.Grids.{spots_put}
use Rattle.cell_grid.proofs.Levels.{unmoved}
use Rattle.cell_grid.proofs.grid.CellGrid.put_point.Goals as goal

pub put-requires-clause-other : goal.put-requires-clause-other
put-requires-clause-other c = rw c.of_point.ensures.value (rw (← c.self.view_is) at c.requires)

pub returns : goal.returns
returns c = rw (← c.self.view_is, ← c.of_point.ensures.value)
    (record { put = c.put.ensures.put; strings = λ e. unmoved _; err = c.put.ensures.err })

pub invariant_of-self : goal.invariant_of-self
invariant_of-self c = record {
  strings = c.self.invariant.strings;
  points = c.put.ensures.spread;
  spots = spots_put _ _ c.self.invariant.spots _ (rw c.of_point.ensures.value refl) c.put.result
      c.put.ensures.put c.put.ensures.err;
}
