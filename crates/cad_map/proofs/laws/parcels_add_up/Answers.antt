use Rattle.cad_map.proofs.Edits.AddedUp.{divided, enclosed, merged}
use Rattle.cad_map.proofs.laws.parcels_add_up.Goals as goal

pub returns-clause-divided : goal.returns-clause-divided
returns-clause-divided c = divided

pub returns-clause-enclosed : goal.returns-clause-enclosed
returns-clause-enclosed c = enclosed

pub returns-clause-merged : goal.returns-clause-merged
returns-clause-merged c = merged
