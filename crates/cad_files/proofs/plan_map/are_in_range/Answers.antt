use Rattle.cad_files.proofs.plan_map.are_in_range.Goals as goal

pub returns : goal.returns
returns c = rw c.rows.view_is at c.rows.invariant
