use Rattle.map_session.proofs.ReplayFacts.{one_replay, replays_on}
use Rattle.map_session.proofs.laws.journal_laws.Goals as goal

pub returns-clause-one : goal.returns-clause-one
returns-clause-one g = one_replay

pub returns-clause-on : goal.returns-clause-on
returns-clause-on g = replays_on
