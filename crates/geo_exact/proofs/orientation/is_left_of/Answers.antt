use Rattle.std.proofs.Common.{ℤ, pos, to_z-of_z, ap}
use Rattle.std.specs.Prelude.{int_lt}
use Rattle.geo_exact.proofs.Wide.{orientation_fits}
use Rattle.geo_exact.proofs.orientation.is_left_of.Goals as goal

pub returns : goal.returns
returns c = let f = orientation_fits c.orient.result c.orient.ensures.small in simp to_z-of_z (ap (λ (z : ℤ). int_lt (pos 0) z) c.orient.ensures.value)
