use Rattle.std.proofs.Common.{sym, subst}
use Rattle.cad_map.specs.Map.{Map}
use Rattle.cad_map.specs.Valid.{IsValid}
use Rattle.map_parts.specs.Parts.{map_of as map_that_stands}
use Rattle.edit_records.specs.Record.{Belongs}
use Rattle.half_cases.proofs.steps.go_both_ways.Goals as goal

pub check_text-requires-2 : goal.check_text-requires-2
check_text-requires-2 g c =
    let made = c.requires.belongs.1 in
    let m = map_that_stands c.args.store.now in
    let same = c.in_ok-go_forward.ensures m (subst (λ (b : Map). Belongs c.args.change.now b m) (sym (c.in_ok-go_back.ensures c.requires.belongs.0 made)) made) in
    subst IsValid (sym same) made.leads.valid
