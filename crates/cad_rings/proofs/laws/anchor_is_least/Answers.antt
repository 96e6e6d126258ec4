use Rattle.cad_rings.proofs.CallerLemmas.{anchor_of-at_most, anchor_of-Contains}
use Rattle.cad_rings.proofs.laws.anchor_is_least.Goals as goal

pub returns-clause-at_most_each : goal.returns-clause-at_most_each
returns-clause-at_most_each c = anchor_of-at_most

pub returns-clause-one_of_them : goal.returns-clause-one_of_them
returns-clause-one_of_them c = anchor_of-Contains
