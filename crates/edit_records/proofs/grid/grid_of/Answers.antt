use Rattle.edit_records.proofs.grid.grid_of.Goals as goal

pub put_points-requires-clause-none : goal.put_points-requires-clause-none
put_points-requires-clause-none c = λ e held. c.in_ok-grid.ensures.points e ((c.in_ok-put_strings.ensures.points e).0 held)

pub returns : goal.returns
returns c = record {
  strings = λ e. (
    (λ held. (c.in_ok-put_strings.ensures.strings e).0 ((c.in_ok-put_points.ensures.strings e).0 held)),
    (λ there. (c.in_ok-put_points.ensures.strings e).1 ((c.in_ok-put_strings.ensures.strings e).1 there)),
  );
  points = c.in_ok-put_points.ensures.points;
}
