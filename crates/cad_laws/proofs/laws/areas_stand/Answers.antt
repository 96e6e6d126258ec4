use Rattle.geo_exact.specs.Measure.{doubled_area}
use Rattle.cad_laws.proofs.StandingAreas.{sums-stand}
use Rattle.cad_laws.proofs.laws.areas_stand.Goals as goal

pub returns : goal.returns
returns c = sums-stand doubled_area
