use Rattle.number_table.proofs.Found.{has-found}
use Rattle.number_table.proofs.table.NumberTable.find_place.Goals as goal

pub returns-clause-there : goal.returns-clause-there
returns-clause-there g c = rw (← c.self.view_is) (has-found c.self.inside.rows.entries c.args.number c.get_index_of.result c.get_index_of.ensures.index)
