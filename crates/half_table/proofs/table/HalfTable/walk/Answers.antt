use Rattle.std.proofs.Common.{ap, subst}
use Rattle.half_table.specs.Rows.{Table, IsLinked}
use Rattle.half_table.proofs.Closed.{has-cycle-of, cycle-only}
use Rattle.half_table.proofs.table.HalfTable.walk.Goals as goal

pub returns-clause-cycle : goal.returns-clause-cycle
returns-clause-cycle g c = has-cycle-of c.args.self.now.rows (subst IsLinked (ap (λ (t : Table). t.rows) c.self.view_is) c.self.invariant) c.args.h c.requires

pub returns-clause-only : goal.returns-clause-only
returns-clause-only g c = λ xs is. cycle-only c.args.self.now.rows (subst IsLinked (ap (λ (t : Table). t.rows) c.self.view_is) c.self.invariant) c.args.h xs is
