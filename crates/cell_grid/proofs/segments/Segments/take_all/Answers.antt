use Rattle.cell_grid.proofs.Together.{less-goes_on, less-ends, still-held}
use Rattle.cell_grid.proofs.segments.Segments.take_all.Goals as goal

pub take-requires-clause-there : goal.take-requires-clause-there
take-requires-clause-there c =
    still-held _ _ _ c.loop-place-test.true c.index-entries-place.is _ _ c.requires.held
    c.loop-place.invariant.taken

pub loop-place-preserved : goal.loop-place-preserved
loop-place-preserved c = record {
  spread = c.take.ensures.spread;
  taken = less-goes_on _ _ _ c.loop-place-test.true c.index-entries-place.is _ _
      _ c.loop-place.invariant.taken c.take.ensures.taken;
}

pub returns-clause-taken : goal.returns-clause-taken
returns-clause-taken c =
    less-ends _ _ c.loop-place-test.false _ _ c.loop-place.invariant.taken
