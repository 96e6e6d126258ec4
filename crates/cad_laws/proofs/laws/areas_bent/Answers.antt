use Rattle.cad_laws.proofs.BentAreas.{area-bent, along-bent, against-bent}
use Rattle.cad_laws.proofs.laws.areas_bent.Goals as goal

pub returns-clause-area : goal.returns-clause-area
returns-clause-area c bent straight p a b f whole goes = area-bent bent straight p a b f whole goes

pub returns-clause-along : goal.returns-clause-along
returns-clause-along c bent straight p a b f whole goes apart =
    along-bent bent straight p a b f whole goes apart

pub returns-clause-against : goal.returns-clause-against
returns-clause-against c bent straight p a b f whole goes apart =
    against-bent bent straight p a b f whole goes apart
