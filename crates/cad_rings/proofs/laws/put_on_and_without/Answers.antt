use Rattle.cad_rings.proofs.CallerLemmas.{without-put_on, put_on-without}
use Rattle.cad_rings.proofs.laws.put_on_and_without.Goals as goal

pub returns-clause-dropped_again : goal.returns-clause-dropped_again
returns-clause-dropped_again c = without-put_on

pub returns-clause-put_on_again : goal.returns-clause-put_on_again
returns-clause-put_on_again c = put_on-without
