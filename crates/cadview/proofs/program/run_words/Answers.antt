use Rattle.std.proofs.Common.{inl}
use Rattle.cadview.proofs.program.run_words.Goals as goal

pub returns-in-Ok : goal.returns-in-Ok
returns-in-Ok g c = inl (c.in-Ok.view, c.in-Ok.ensures.ok, c.run_view.ensures)
