use Rattle.std.proofs.Common.{sym, subst}
use Rattle.cad_map.specs.Valid.{IsValid}
use Rattle.half_cases.proofs.lists.square_on_halves.Goals as goal

pub returns : goal.returns
returns c = subst IsValid (sym c.in_ok-halves.ensures.is) c.in_ok-plain.ensures
