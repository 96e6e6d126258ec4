use Rattle.geo_exact.proofs.Directions.{one_is_first}
use Rattle.geo_exact.proofs.sector.one_direction_is_first.Goals as goal

pub returns : goal.returns
returns c = one_is_first c.args.v c.args.n c.args.p c.args.w
