use Rattle.cad_rings.proofs.CallerLemmas.{sides_of-joined, corners_of-joined, ring_sum-joined}
use Rattle.cad_rings.proofs.laws.joined_adds_up.Goals as goal

pub returns-clause-sides : goal.returns-clause-sides
returns-clause-sides c = sides_of-joined

pub returns-clause-corners : goal.returns-clause-corners
returns-clause-corners c = corners_of-joined

pub returns-clause-sum : goal.returns-clause-sum
returns-clause-sum c = ring_sum-joined
