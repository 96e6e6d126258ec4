use Rattle.map_session.proofs.LineFacts.{one_line}
use Rattle.map_session.proofs.laws.one_meaning.Goals as goal

pub returns : goal.returns
returns g = one_line
