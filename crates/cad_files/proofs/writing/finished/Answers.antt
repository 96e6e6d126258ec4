use Rattle.std.proofs.Common.{◌∙◌}
use Rattle.cad_files.proofs.TextFacts.{some_is}
use Rattle.cad_files.proofs.writing.finished.Goals as goal

pub returns-in-Ok : goal.returns-in-Ok
returns-in-Ok c = λ written h. c.in-Ok.ensures.ok ∙ some_is _ _ h.written
