use Rattle.cad_files.proofs.DecimalFacts.{number_again}
use Rattle.cad_files.proofs.fields.numbers_again.Goals as goal

pub returns : goal.returns
returns c = number_again
