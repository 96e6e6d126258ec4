use Rattle.std.proofs.Common.{ap, ◌∙◌}
use Rattle.half_table.specs.Rows.{has}
use Rattle.half_table.proofs.Spliced.{has-prev}
use Rattle.half_table.proofs.table.HalfTable.prev.Goals as goal

pub returns-clause-inside : goal.returns-clause-inside
returns-clause-inside g c =
    ap (has c.args.self.now.rows) c.prev.ensures
    ∙ has-prev c.args.self.now.rows c.args.h c.links.result.now c.links.ensures.linked c.links.ensures.is c.requires
