use Rattle.cad_rings.proofs.CallerLemmas.{IsSameRing-reversed, sides_of-reversed, corners_of-reversed, anchor_of-reversed, ring_sum-reversed}
use Rattle.cad_rings.proofs.laws.reversed_is_opposite.Goals as goal

pub returns-clause-same : goal.returns-clause-same
returns-clause-same c = IsSameRing-reversed

pub returns-clause-sides : goal.returns-clause-sides
returns-clause-sides c = sides_of-reversed

pub returns-clause-corners : goal.returns-clause-corners
returns-clause-corners c = corners_of-reversed

pub returns-clause-anchor : goal.returns-clause-anchor
returns-clause-anchor c = anchor_of-reversed

pub returns-clause-sum : goal.returns-clause-sum
returns-clause-sum c = ring_sum-reversed
