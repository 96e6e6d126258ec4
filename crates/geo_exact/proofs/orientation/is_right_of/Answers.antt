use Rattle.std.proofs.Common.{ℤ, pos, to_z-of_z, ap}
use Rattle.std.specs.Prelude.{int_lt}
use Rattle.geo_exact.proofs.Wide.{orientation_fits}
use Rattle.geo_exact.proofs.orientation.is_right_of.Goals as goal

pub returns : goal.returns
returns c = let f = orientation_fits c.orient.result c.orient.ensures.small in simp to_z-of_z (ap (λ (z : ℤ). int_lt z (pos 0)) c.orient.ensures.value)
