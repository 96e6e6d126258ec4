use Rattle.cad_map.proofs.SharedChains.OneChain.{one-shared_chain, merged-any}
use Rattle.cad_map.proofs.laws.one_shared_chain.Goals as goal

pub returns-clause-same : goal.returns-clause-same
returns-clause-same c m kept ended x y valid two h k = one-shared_chain m valid kept ended two x y h k

pub returns-clause-merged : goal.returns-clause-merged
returns-clause-merged c m kept ended x valid two h = merged-any m valid kept ended two x h
