use Rattle.map_parts.proofs.DividedChain.{tried-chain, tried-faces}
use Rattle.cad_surgery.proofs.laws.divisions_bring_chains.Goals as goal

pub returns-clause-chain : goal.returns-clause-chain
returns-clause-chain c = λ m face points strings parcel label source first last tried. tried-chain m face points strings parcel label source tried first last

pub returns-clause-faces : goal.returns-clause-faces
returns-clause-faces c = tried-faces
