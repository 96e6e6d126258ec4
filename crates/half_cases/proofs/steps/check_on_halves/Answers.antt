use Rattle.std.proofs.Common.{sym, subst}
use Rattle.cad_map.specs.Valid.{IsValid}
use Rattle.half_cases.proofs.steps.check_on_halves.Goals as goal

pub check_made-requires : goal.check_made-requires
check_made-requires g c =
    record { valid = subst IsValid (sym c.in_ok-halves.ensures.is) c.requires }
