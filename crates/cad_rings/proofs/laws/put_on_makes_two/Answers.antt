use Rattle.cad_rings.proofs.CallerLemmas.{sides_of-put_on, corners_of-put_on, sides_of-put_on_once, put_on-same, length-put_on}
use Rattle.cad_rings.proofs.laws.put_on_makes_two.Goals as goal

pub returns-clause-sides : goal.returns-clause-sides
returns-clause-sides c = sides_of-put_on

pub returns-clause-corners : goal.returns-clause-corners
returns-clause-corners c = corners_of-put_on

pub returns-clause-once : goal.returns-clause-once
returns-clause-once c = sides_of-put_on_once

pub returns-clause-same : goal.returns-clause-same
returns-clause-same c = put_on-same

pub returns-clause-length : goal.returns-clause-length
returns-clause-length c = length-put_on
