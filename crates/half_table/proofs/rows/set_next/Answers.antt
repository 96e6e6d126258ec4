use Rattle.std.proofs.Common.{rules}
use Rattle.half_table.proofs.Changed.{next-put}
use Rattle.half_table.proofs.rows.set_next.Goals as goal

pub returns-clause-changes : goal.returns-clause-changes
returns-clause-changes c = next-put c.args.rows.now c.change_links.new.rows c.args.h.now c.change_links.result c.args.to.now (c.change_links.ensures.was, search rules)
