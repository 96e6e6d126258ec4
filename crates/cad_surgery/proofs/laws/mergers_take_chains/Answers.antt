use Rattle.map_parts.proofs.MergedChain.{merged-chain, merged-face}
use Rattle.cad_surgery.proofs.laws.mergers_take_chains.Goals as goal

pub returns-clause-chain : goal.returns-clause-chain
returns-clause-chain c = merged-chain

pub returns-clause-faces : goal.returns-clause-faces
returns-clause-faces c = merged-face
