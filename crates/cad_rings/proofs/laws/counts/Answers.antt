use Rattle.cad_rings.proofs.CallerLemmas.{length-sides_of, length-corners_of}
use Rattle.cad_rings.proofs.laws.counts.Goals as goal

pub returns-clause-sides : goal.returns-clause-sides
returns-clause-sides c = length-sides_of

pub returns-clause-corners : goal.returns-clause-corners
returns-clause-corners c = length-corners_of
