use Rattle.cad_rings.proofs.CallerLemmas.{sides_of-cut, corners_of-cut, ring_sum-cut}
use Rattle.cad_rings.proofs.laws.cut_adds_up.Goals as goal

pub returns-clause-sides : goal.returns-clause-sides
returns-clause-sides c = sides_of-cut

pub returns-clause-corners : goal.returns-clause-corners
returns-clause-corners c = corners_of-cut

pub returns-clause-sum : goal.returns-clause-sum
returns-clause-sum c = ring_sum-cut
