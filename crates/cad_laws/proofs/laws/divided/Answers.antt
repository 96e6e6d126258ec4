use Rattle.cad_laws.proofs.DividedCorners.{divided-parted}
use Rattle.cad_laws.proofs.PlacedFaces.{divided-faces}
use Rattle.cad_laws.proofs.laws.divided.Goals as goal

pub returns-clause-corners : goal.returns-clause-corners
returns-clause-corners c m face chain strings parcel label source first last t k =
    divided-parted m face chain strings parcel label source first last t.valid t.given t.allowed
    k.first_is k.last_is

pub returns-clause-faces : goal.returns-clause-faces
returns-clause-faces c m face chain strings parcel label source first last t k =
    divided-faces m face chain strings parcel label source first last t.valid t.given t.allowed
    k.first_is k.last_is
