use Rattle.cad_files.proofs.RepeatedSources.{told-repeated}
use Rattle.cad_files.proofs.lists.is_repeated.Goals as goal

pub returns-in-Some : goal.returns-in-Some
returns-in-Some g c = told-repeated c.args.list.now c.in-Some.told (rw c.in-Some.is at c.distinct_as_told.ensures)
