use Rattle.cad_laws.proofs.EnclosedCorners.{enclosed-island}
use Rattle.cad_laws.proofs.PlacedFaces.{enclosed-faces}
use Rattle.cad_laws.proofs.laws.enclosed.Goals as goal

pub returns-clause-corners : goal.returns-clause-corners
returns-clause-corners c m face points strings parcel label source t =
    enclosed-island m face points strings parcel label source t.valid t.given t.allowed

pub returns-clause-faces : goal.returns-clause-faces
returns-clause-faces c = enclosed-faces
