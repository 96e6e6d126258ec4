use Rattle.std.proofs.Common.{sym, subst}
use Rattle.cad_map.specs.Map.{Map}
use Rattle.edit_records.specs.Record.{Belongs}
use Rattle.half_cases.proofs.steps.go_on_another.Goals as goal

pub go_both_ways-requires : goal.go_both_ways-requires
go_both_ways-requires g c =
    let before = c.requires.belongs.0 in
    let made = subst (λ (m : Map). Belongs c.args.change.now before m) (sym c.in_ok-other.ensures.is) c.requires.belongs.1 in
    record { belongs = (before, made) }
