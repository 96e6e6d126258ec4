use Rattle.std.proofs.Common.{◌≡◌, OnOk, subst}
use Rattle.cad_map.specs.Map.{Map}
use Rattle.map_parts.specs.Parts.{map_of as map_that_stands}
use Rattle.edit_records.specs.Record.{Belongs}
use Rattle.half_cases.proofs.steps.go_back.Goals as goal

pub returns : goal.returns
returns g c =
    subst (λ m. OnOk c.back-in-Err.result ((before : Map) → Belongs c.args.change.now before m → map_that_stands c.back-in-Err.new.self ≡ before))
    c.in-Err.ensures.err c.back-in-Err.ensures.before
