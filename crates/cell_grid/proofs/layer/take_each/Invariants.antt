use Rattle.cell_grid.specs.Spread.{IsTakenOut}
use Rattle.cell_grid.proofs.layer.take_each.Given as goal

abbrev pub invariant-loop-turn : goal.invariant-loop-turn
invariant-loop-turn l = IsTakenOut l.initial.lists l.block l.entry l.turn l.lists
