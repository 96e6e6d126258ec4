use Rattle.cell_grid.proofs.Levels.{unmoved}
use Rattle.cell_grid.proofs.grid.CellGrid.put_string.Goals as goal

pub put-requires-clause-other : goal.put-requires-clause-other
put-requires-clause-other c = rw c.of_string.ensures.value (rw (← c.self.view_is) at c.requires)

pub returns : goal.returns
returns c = rw (← c.self.view_is, ← c.of_string.ensures.value)
    (record { put = c.put.ensures.put; points = λ e. unmoved _; err = c.put.ensures.err })
