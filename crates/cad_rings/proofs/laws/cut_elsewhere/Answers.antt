use Rattle.cad_rings.proofs.CallerLemmas.{left_ring-same, right_ring-same}
use Rattle.cad_rings.proofs.laws.cut_elsewhere.Goals as goal

pub returns-clause-left : goal.returns-clause-left
returns-clause-left c = left_ring-same

pub returns-clause-right : goal.returns-clause-right
returns-clause-right c = right_ring-same
