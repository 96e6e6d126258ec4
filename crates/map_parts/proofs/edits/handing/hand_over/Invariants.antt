use Rattle.map_parts.proofs.Handed.{IsHanding}
use Rattle.map_parts.proofs.edits.handing.hand_over.Given as goal

abbrev pub invariant-loop-step : goal.invariant-loop-step
invariant-loop-step g l = IsHanding l.table.rows l.from_key l.to_key l.fn.kept l.kept l.place l._step
