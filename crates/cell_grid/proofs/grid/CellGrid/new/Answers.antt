use Rattle.cell_grid.proofs.grid.CellGrid.new.Goals as goal

pub returns-clause-strings : goal.returns-clause-strings
returns-clause-strings c = c.new.ensures.empty

pub returns-clause-points : goal.returns-clause-points
returns-clause-points c = c.new-2.ensures.empty

pub invariant_of-result : goal.invariant_of-result
invariant_of-result c = record {
  strings = c.new.ensures.spread;
  points = c.new-2.ensures.spread;
  spots = λ e h. absurd (c.new-2.ensures.empty e h);
}
