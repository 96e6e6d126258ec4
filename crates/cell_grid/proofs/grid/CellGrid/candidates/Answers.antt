use Rattle.cell_grid.specs.Grid.{entry_of, held_string}
use Rattle.cell_grid.proofs.Grids.{numbers_given, strings_given, read-has}
use Rattle.cell_grid.proofs.grid.CellGrid.candidates.Goals as goal

pub invariant_of-result : goal.invariant_of-result
invariant_of-result c =
    numbers_given _ c.self.invariant.strings c.args.a c.args.b c.of.result c.of.ensures.held

pub returns : goal.returns
returns c = rw (← c.self.view_is) (record {
  held = strings_given _ c.self.invariant.strings c.args.a c.args.b c.of.result c.of.ensures.held;
  all = λ n a b held near.
      let e = entry_of n a b in read-has held_string c.of.result e (c.of.ensures.all e held near);
})
