use Rattle.cad_map.specs.Effects.{after}
use Rattle.cad_surgery.proofs.edits.rows.remake.Goals as goal

pub returns-in-Move-clause-ok : goal.returns-in-Move-clause-ok
unfolding after
returns-in-Move-clause-ok c = rw c.in-Move.is c.move_point.ensures.rows

pub returns-in_ok-detach-in-Detach-clause-ok : goal.returns-in_ok-detach-in-Detach-clause-ok
unfolding after
returns-in_ok-detach-in-Detach-clause-ok c = rw c.in-Detach.is c.in_ok-detach-in-Detach.ensures.ok
