use Rattle.cad_laws.proofs.MergedCorners.{merged-corners}
use Rattle.cad_laws.proofs.MergedFaces.{merged-faces}
use Rattle.cad_laws.proofs.laws.merged.Goals as goal

pub returns-clause-corners : goal.returns-clause-corners
returns-clause-corners c m kept ended x t h = merged-corners m kept ended x t.valid t.allowed h

pub returns-clause-faces : goal.returns-clause-faces
returns-clause-faces c m kept ended x t h = merged-faces m kept ended x t.valid t.allowed h
