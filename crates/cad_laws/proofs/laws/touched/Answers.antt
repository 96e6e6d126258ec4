use Rattle.cad_laws.proofs.TouchedAfter.{touched-after}
use Rattle.cad_laws.proofs.laws.touched.Goals as goal

pub returns : goal.returns
returns c m e t = touched-after m e t.valid t.given t.allowed
