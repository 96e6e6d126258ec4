use Rattle.std.proofs.Common.{inr}
use Rattle.base_cases.proofs.cells.many_taken_out_together.Goals as goal

pub put_all-requires-clause-strings : goal.put_all-requires-clause-strings
put_all-requires-clause-strings g c = record {
  others = λ e _. c.in_ok-grid.ensures.strings e;
  once = c.in_ok-star.ensures.once;
}

pub take_all-requires-clause-strings : goal.take_all-requires-clause-strings
take_all-requires-clause-strings g c = record {
  held = λ e among. (c.in_ok-put_all.ensures.put_strings e).1 (inr among);
  once = c.in_ok-star.ensures.once;
}

pub put_all-requires-2-clause-strings : goal.put_all-requires-2-clause-strings
put_all-requires-2-clause-strings g c = record {
  others = λ e among held. ((c.take_all.ensures.strings e).0 held).1 among;
  once = c.in_ok-star.ensures.once;
}
