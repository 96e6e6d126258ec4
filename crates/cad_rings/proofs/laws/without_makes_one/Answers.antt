use Rattle.cad_rings.proofs.CallerLemmas.{sides_of-without, corners_of-without, without-same, length-without}
use Rattle.cad_rings.proofs.laws.without_makes_one.Goals as goal

pub returns-clause-sides : goal.returns-clause-sides
returns-clause-sides c = sides_of-without

pub returns-clause-corners : goal.returns-clause-corners
returns-clause-corners c = corners_of-without

pub returns-clause-same : goal.returns-clause-same
returns-clause-same c = without-same

pub returns-clause-length : goal.returns-clause-length
returns-clause-length c = length-without
