use Rattle.cell_grid.proofs.Together.{there, not-yet, more-goes_on, more-ends, can-be_taken, taken-back}
use Rattle.cell_grid.proofs.segments.Segments.put_all.Goals as goal

pub put-requires-clause-sound : goal.put-requires-clause-sound
put-requires-clause-sound c =
    c.requires.sound _ (there _ _ _ c.loop-place-test.true c.index-entries-place.is)

pub put-requires-clause-other : goal.put-requires-clause-other
put-requires-clause-other c =
    not-yet _ _ _ c.loop-place-test.true c.index-entries-place.is _ _ c.requires.fresh
    c.loop-place.invariant.put

pub take_all-requires-clause-held : goal.take_all-requires-clause-held
take_all-requires-clause-held c =
    can-be_taken _ _ c.loop-place-test.true _ _ _ c.requires.fresh
    c.loop-place.invariant.put c.in-Err.ensures.err

pub returns-in-Err-clause-err : goal.returns-in-Err-clause-err
returns-in-Err-clause-err c =
    taken-back _ _ c.loop-place-test.true _ _ _ c.requires.fresh
    c.loop-place.invariant.put c.in-Err.ensures.err _
    c.take_all.ensures.taken

pub loop-place-preserved : goal.loop-place-preserved
loop-place-preserved c = record {
  spread = c.put.ensures.spread;
  put = more-goes_on _ _ _ c.loop-place-test.true c.index-entries-place.is _ _
      _ c.loop-place.invariant.put c.in_default.ensures.put;
}

pub returns-clause-put : goal.returns-clause-put
returns-clause-put c =
    more-ends _ _ c.loop-place-test.false _ _ c.loop-place.invariant.put
