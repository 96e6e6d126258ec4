use Rattle.cad_views.proofs.CutFacts.{cut-sum}
use Rattle.cad_views.proofs.cut.cut_adds_up.Goals as goal

pub returns : goal.returns
returns c = cut-sum
