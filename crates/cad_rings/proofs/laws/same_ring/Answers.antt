use Rattle.cad_rings.proofs.CallerLemmas.{IsSameRing-sym, IsSameRing-trans, IsSameRing-turned}
use Rattle.cad_rings.proofs.laws.same_ring.Goals as goal

pub returns-clause-symmetric : goal.returns-clause-symmetric
returns-clause-symmetric c = IsSameRing-sym

pub returns-clause-transitive : goal.returns-clause-transitive
returns-clause-transitive c = IsSameRing-trans

pub returns-clause-turned : goal.returns-clause-turned
returns-clause-turned c = IsSameRing-turned
