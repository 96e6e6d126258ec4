use Rattle.cell_grid.proofs.Levels.{unmoved}
use Rattle.cell_grid.proofs.grid.CellGrid.take_string.Goals as goal

pub returns : goal.returns
returns c = rw (← c.self.view_is, ← c.of_string.ensures.value)
    (record { taken = c.take.ensures.taken; points = λ e. unmoved _ })
