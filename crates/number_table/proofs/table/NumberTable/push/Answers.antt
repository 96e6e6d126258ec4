use Rattle.std.proofs.Common.{nat_eq, ◌∙◌}
use Rattle.indexmap.proofs.CallerLemmas.{insert_entry-new}
use Rattle.number_table.proofs.table.NumberTable.push.Goals as goal

pub returns-clause-rows : goal.returns-clause-rows
returns-clause-rows g c =
    let new = insert_entry-new nat_eq c.self.inside.rows c.args.number c.args.value (rw c.self.view_is c.requires.absent) in
    rw (← c.self.view_is) (c.in_ok-insert.ensures.entries ∙ new)
