use Rattle.cad_rings.proofs.CallerLemmas.{IsSameRing-least_rotation, least_rotation-comes_first, least_rotation-same, IsSameRing-from_least_rotation, least_rotation-least_rotation}
use Rattle.cad_rings.proofs.laws.one_form.Goals as goal

pub returns-clause-is_a_rotation : goal.returns-clause-is_a_rotation
returns-clause-is_a_rotation c = IsSameRing-least_rotation

pub returns-clause-before_all : goal.returns-clause-before_all
returns-clause-before_all c = least_rotation-comes_first

pub returns-clause-same : goal.returns-clause-same
returns-clause-same c = least_rotation-same

pub returns-clause-told_apart : goal.returns-clause-told_apart
returns-clause-told_apart c = IsSameRing-from_least_rotation

pub returns-clause-canonical_again : goal.returns-clause-canonical_again
returns-clause-canonical_again c = least_rotation-least_rotation
