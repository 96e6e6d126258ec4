use Rattle.cad_views.proofs.DifferenceFacts.{one-each}
use Rattle.cad_views.proofs.differences.one_each.Goals as goal

pub returns : goal.returns
returns c = λ old new before after. one-each old new before.sound.v1 after.sound.v1
