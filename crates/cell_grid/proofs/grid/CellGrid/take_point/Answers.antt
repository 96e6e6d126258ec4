use Rattle.cell_grid.proofs.Grids.{spots_take}
use Rattle.cell_grid.proofs.Levels.{unmoved}
use Rattle.cell_grid.proofs.grid.CellGrid.take_point.Goals as goal

pub returns : goal.returns
returns c = rw (← c.self.view_is, ← c.of_point.ensures.value)
    (record { taken = c.take.ensures.taken; strings = λ e. unmoved _ })

pub invariant_of-self : goal.invariant_of-self
invariant_of-self c = record {
  strings = c.self.invariant.strings;
  points = c.take.ensures.spread;
  spots = spots_take _ _ c.self.invariant.spots _ c.take.ensures.taken;
}
