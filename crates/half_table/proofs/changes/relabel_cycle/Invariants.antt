use Rattle.half_table.proofs.Relabelled.{Relabelling, halves_left}
use Rattle.half_table.proofs.changes.relabel_cycle.Given as goal

abbrev pub invariant-loop-at : goal.invariant-loop-at
invariant-loop-at g l = Relabelling l.fn.rows l.h l.face (g.T.Tally.counted l.fn.tally) l.rows l.at (g.T.Tally.counted l.tally)

abbrev pub decreases-loop-at : goal.decreases-loop-at
decreases-loop-at g l = halves_left l.fn.rows l.h l.at
