use Rattle.cad_history.proofs.OneHistory.{one_answer, one_end}
use Rattle.cad_history.proofs.laws.one_history.Goals as goal

pub returns-clause-answer : goal.returns-clause-answer
returns-clause-answer c = one_answer

pub returns-clause-after : goal.returns-clause-after
returns-clause-after c = one_end
