use Rattle.cad_rings.proofs.CallerLemmas.{sides_of-turned, corners_of-turned}
use Rattle.cad_rings.proofs.laws.turned_on.Goals as goal

pub returns-clause-sides : goal.returns-clause-sides
returns-clause-sides c = sides_of-turned

pub returns-clause-corners : goal.returns-clause-corners
returns-clause-corners c = corners_of-turned
