use Rattle.cad_map.specs.Effects.{after}
use Rattle.cad_surgery.proofs.edits.rows.make.Goals as goal

pub returns-in_ok-place-in-Detach-clause-ok : goal.returns-in_ok-place-in-Detach-clause-ok
unfolding after
returns-in_ok-place-in-Detach-clause-ok c = rw c.in-Detach.is c.in_ok-place-in-Detach.ensures.ok
