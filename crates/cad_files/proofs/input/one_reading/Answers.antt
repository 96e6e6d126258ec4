use Rattle.cad_files.proofs.InputFacts.{whole_front}
use Rattle.cad_files.proofs.input.one_reading.Goals as goal

pub returns : goal.returns
returns c = whole_front
