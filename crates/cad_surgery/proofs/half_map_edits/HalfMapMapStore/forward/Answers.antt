use Rattle.std.proofs.Common.{subst, sym}
use Rattle.cad_map.specs.Costs.{work_bound}
use Rattle.cad_map.specs.Effects.{after}
use Rattle.map_parts.specs.Parts.{map_of}
use Rattle.edit_records.specs.Record.{edit_of}
use Rattle.cad_surgery.specs.Work.{TakesWork}
use Rattle.cad_surgery.proofs.half_map_edits.HalfMapMapStore.forward.Goals as goal

pub returns-clause-work : goal.returns-clause-work
returns-clause-work g c n belongs =
    let new = c.play_again.new.draft in
    subst (λ q. TakesWork c.args.self.now.table new.table (work_bound (map_of c.args.self.now) q)) (sym belongs.leads.is)
    (subst (λ d. TakesWork d.table new.table (work_bound (map_of d) (after (map_of d) (edit_of c.args.change.now)))) c.self.view_is c.play_again.ensures.work)
