use Rattle.cad_laws.proofs.WholeAfter.{whole-after}
use Rattle.cad_laws.proofs.laws.whole_rings.Goals as goal

pub returns : goal.returns
returns c m e t = whole-after m e t.valid t.given t.allowed
