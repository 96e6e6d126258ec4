use Rattle.cad_views.proofs.MetresFacts.{again}
use Rattle.cad_views.proofs.metres.metres_again.Goals as goal

pub returns : goal.returns
returns c = again
