use Rattle.cad_rings.proofs.CallerLemmas.{HaveChainInCommon-cut, joined-cut, cut-joined}
use Rattle.cad_rings.proofs.laws.cut_and_joined.Goals as goal

pub returns-clause-in_common : goal.returns-clause-in_common
returns-clause-in_common c = HaveChainInCommon-cut

pub returns-clause-joined_again : goal.returns-clause-joined_again
returns-clause-joined_again c = joined-cut

pub returns-clause-left_again : goal.returns-clause-left_again
returns-clause-left_again c = λ i j m kept ended common. (cut-joined i j m kept ended common).left

pub returns-clause-right_again : goal.returns-clause-right_again
returns-clause-right_again c = λ i j m kept ended common. (cut-joined i j m kept ended common).right
