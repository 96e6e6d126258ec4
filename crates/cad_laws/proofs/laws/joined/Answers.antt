use Rattle.cad_laws.proofs.JoinedCorners.{join-at}
use Rattle.cad_laws.proofs.WholeAfter.{join-breaks}
use Rattle.cad_laws.proofs.laws.joined.Goals as goal

pub returns-clause-corners : goal.returns-clause-corners
returns-clause-corners c m p new s t tried are = join-at m p new s t tried.valid tried.allowed are

pub returns-clause-breaks : goal.returns-clause-breaks
returns-clause-breaks c m p new t some = join-breaks m p new t.valid t.given t.allowed some
