use Rattle.cad_map.proofs.Edits.Broken.{leads-one, refused-one, leads-not_refused, broken-one}
use Rattle.cad_map.proofs.laws.one_outcome.Goals as goal

pub returns-clause-map : goal.returns-clause-map
returns-clause-map c = leads-one

pub returns-clause-refusal : goal.returns-clause-refusal
returns-clause-refusal c = refused-one

pub returns-clause-either : goal.returns-clause-either
returns-clause-either c = leads-not_refused

pub returns-clause-rule : goal.returns-clause-rule
returns-clause-rule c = broken-one
