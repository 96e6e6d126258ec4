use Rattle.cell_grid.proofs.grid.CellGrid.take_all.Goals as goal

pub returns-clause-strings : goal.returns-clause-strings
returns-clause-strings c =
    rw (← c.self.view_is, ← c.entries.view_is)
    (rw c.as_slice.ensures.value at c.take_all.ensures.taken)

pub returns-clause-points : goal.returns-clause-points
returns-clause-points c =
    rw (← c.self.view_is, ← c.entries.view_is)
    (rw c.as_slice-2.ensures.value at c.take_all-2.ensures.taken)

pub invariant_of-self : goal.invariant_of-self
invariant_of-self c =
    let i = c.self.invariant in
    record {
      strings = c.take_all.ensures.spread;
      points = c.take_all-2.ensures.spread;
      spots = λ e h. i.spots e ((c.take_all-2.ensures.taken e).0 h).0;
    }
