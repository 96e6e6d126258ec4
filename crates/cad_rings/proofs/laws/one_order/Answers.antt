use Rattle.cad_rings.proofs.CallerLemmas.{comes_first-refl, comes_first-antisym, comes_first-trans, comes_first-total}
use Rattle.cad_rings.proofs.laws.one_order.Goals as goal

pub returns-clause-reflexive : goal.returns-clause-reflexive
returns-clause-reflexive c = comes_first-refl

pub returns-clause-antisymmetric : goal.returns-clause-antisymmetric
returns-clause-antisymmetric c = comes_first-antisym

pub returns-clause-transitive : goal.returns-clause-transitive
returns-clause-transitive c = comes_first-trans

pub returns-clause-total : goal.returns-clause-total
returns-clause-total c = comes_first-total
