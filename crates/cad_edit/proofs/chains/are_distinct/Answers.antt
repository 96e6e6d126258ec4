use Rattle.cad_edit.proofs.ToldLists.{told-distinct}
use Rattle.cad_edit.proofs.chains.are_distinct.Goals as goal

pub returns-in-Some : goal.returns-in-Some
returns-in-Some g c = told-distinct c.args.numbers.now c.in-Some.told (rw c.in-Some.is at c.distinct_as_told.ensures)
