use Rattle.cad_rings.proofs.CallerLemmas.{sides_of-same, corners_of-same, anchor_of-same, ring_sum-same_ring}
use Rattle.cad_rings.proofs.laws.same_ring_keeps.Goals as goal

pub returns-clause-sides : goal.returns-clause-sides
returns-clause-sides c = sides_of-same

pub returns-clause-corners : goal.returns-clause-corners
returns-clause-corners c = corners_of-same

pub returns-clause-anchor : goal.returns-clause-anchor
returns-clause-anchor c = anchor_of-same

pub returns-clause-sum : goal.returns-clause-sum
returns-clause-sum c = ring_sum-same_ring
