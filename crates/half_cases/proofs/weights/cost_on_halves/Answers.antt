use Rattle.std.proofs.Common.{sym, subst}
use Rattle.cad_map.specs.Valid.{IsValid}
use Rattle.half_cases.proofs.weights.cost_on_halves.Goals as goal

pub cost_on-requires : goal.cost_on-requires
cost_on-requires c = subst IsValid (sym c.in_ok-halves.ensures.is) c.requires
