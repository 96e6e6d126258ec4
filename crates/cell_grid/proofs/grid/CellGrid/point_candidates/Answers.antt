use Rattle.cell_grid.specs.Grid.{entry_of, held_point}
use Rattle.cell_grid.proofs.Grids.{numbers_given, points_given, read-has}
use Rattle.cell_grid.proofs.grid.CellGrid.point_candidates.Goals as goal

pub invariant_of-result : goal.invariant_of-result
invariant_of-result c =
    numbers_given _ c.self.invariant.points c.args.a c.args.b c.of.result c.of.ensures.held

pub returns : goal.returns
returns c = rw (← c.self.view_is) (record {
  held = points_given _ c.self.invariant.points c.args.a c.args.b c.of.result c.of.ensures.held
      c.self.invariant.spots;
  all = λ n a held near.
      let e = entry_of n a a in read-has held_point c.of.result e (c.of.ensures.all e held near);
})
