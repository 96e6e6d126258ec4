use Rattle.cad_rings.proofs.CallerLemmas.{ring_sum-same}
use Rattle.cad_rings.proofs.laws.sum_is_of_positions.Goals as goal

pub returns : goal.returns
returns c = ring_sum-same
