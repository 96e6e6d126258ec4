use Rattle.std.proofs.Common.{◌≡◌}
use Rattle.cell_grid.specs.Kept.{kept}
use Rattle.cell_grid.proofs.Levels.{unmoved, OnErr_always}
use Rattle.cell_grid.proofs.Together.{now-held, all-back, held-each}
use Rattle.cell_grid.proofs.grid.CellGrid.put_all.Goals as goal

pub put_all-requires-clause-sound : goal.put_all-requires-clause-sound
put_all-requires-clause-sound c = rw c.as_slice.ensures.value c.entries.invariant.strings

pub put_all-requires-2-clause-sound : goal.put_all-requires-2-clause-sound
put_all-requires-2-clause-sound c = rw c.as_slice-2.ensures.value c.entries.invariant.points

pub returns-in_err-put_all-clause-err_strings : goal.returns-in_err-put_all-clause-err_strings
returns-in_err-put_all-clause-err_strings c =
    rw (← c.self.view_is)
    (OnErr_always c.from_residual.result c.in_err-put_all.ensures.err)

pub returns-in_err-put_all-clause-err_points : goal.returns-in_err-put_all-clause-err_points
returns-in_err-put_all-clause-err_points c =
    rw (← c.self.view_is) (OnErr_always c.from_residual.result (λ e. unmoved _))

pub take_all-requires-clause-held : goal.take_all-requires-clause-held
take_all-requires-clause-held c =
    let fresh = rw (← c.self.view_is, ← c.entries.view_is) at c.requires.strings in
    rw c.as_slice-in-Err.ensures.value
    (now-held (kept c.self.inside.strings) (kept c.put_all.new.self) _ fresh
    (rw c.as_slice.ensures.value at c.in_ok-put_all.ensures.put))

pub invariant_of-self-in-Err : goal.invariant_of-self-in-Err
invariant_of-self-in-Err c =
    let i = c.self.invariant in
    record {
      strings = c.take_all.ensures.spread;
      points = c.put_all-2.ensures.spread;
      spots = λ e h. i.spots e ((c.in-Err.ensures.err e).0 h);
    }

pub returns-in-Err-clause-err_strings : goal.returns-in-Err-clause-err_strings
returns-in-Err-clause-err_strings c =
    let fresh = rw (← c.self.view_is, ← c.entries.view_is) at c.requires.strings in
    rw (← c.self.view_is)
    (all-back (kept c.self.inside.strings) (kept c.put_all.new.self) (kept c.take_all.new.self)
    c.entries.inside.strings.items fresh
    (rw c.as_slice.ensures.value at c.in_ok-put_all.ensures.put)
    (rw c.as_slice-in-Err.ensures.value at c.take_all.ensures.taken))

pub returns-in-Err-clause-err_points : goal.returns-in-Err-clause-err_points
returns-in-Err-clause-err_points c = rw (← c.self.view_is) c.in-Err.ensures.err

pub invariant_of-self-in_default : goal.invariant_of-self-in_default
invariant_of-self-in_default c =
    let i = c.self.invariant in
    record {
      strings = c.put_all.ensures.spread;
      points = c.put_all-2.ensures.spread;
      spots = held-each (λ e. e.from ≡ e.to) (kept c.self.inside.points)
          (kept c.put_all-2.new.self) c.entries.inside.points.items i.spots
          c.entries.invariant.spots
          (rw c.as_slice-2.ensures.value at c.in_default.ensures.put);
    }

pub returns-clause-put_strings : goal.returns-clause-put_strings
returns-clause-put_strings c =
    rw (← c.self.view_is, ← c.entries.view_is)
    (rw c.as_slice.ensures.value at c.in_ok-put_all.ensures.put)

pub returns-clause-put_points : goal.returns-clause-put_points
returns-clause-put_points c =
    rw (← c.self.view_is, ← c.entries.view_is)
    (rw c.as_slice-2.ensures.value at c.in_default.ensures.put)
