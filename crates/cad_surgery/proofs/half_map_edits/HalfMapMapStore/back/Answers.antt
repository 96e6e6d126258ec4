use Rattle.std.proofs.Common.{◌≡◌, subst}
use Rattle.std.specs.Prelude.{OnOk}
use Rattle.cad_map.specs.Costs.{work_bound}
use Rattle.cad_map.specs.Map.{Map}
use Rattle.map_parts.specs.Parts.{map_of}
use Rattle.edit_records.specs.Record.{Belongs}
use Rattle.cad_surgery.specs.Work.{TakesWork}
use Rattle.cad_surgery.proofs.half_map_edits.HalfMapMapStore.back.Goals as goal

pub returns-clause-before : goal.returns-clause-before
returns-clause-before g c =
    subst (λ d. OnOk c.play_back.result ((before : Map) → Belongs c.args.change.now before (map_of d) → map_of c.play_back.new.draft ≡ before)) c.self.view_is
    c.play_back.ensures.before

pub returns-clause-work : goal.returns-clause-work
returns-clause-work g c =
    subst (λ d. (before : Map) → Belongs c.args.change.now before (map_of d) → TakesWork d.table c.play_back.new.draft.table (work_bound before (map_of d))) c.self.view_is
    c.play_back.ensures.work
