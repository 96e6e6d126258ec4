use Rattle.std.proofs.Common.{◌≡◌, ◌≤◌, ap, arith}
use Rattle.half_table.specs.Rows.{Table}
use Rattle.half_table.specs.Count.{greatest}
use Rattle.half_table.proofs.table.HalfTable.tick.Goals as goal

pub returns-clause-grows : goal.returns-clause-grows
returns-clause-grows g c =
    let was : g.T.Tally.counted c.self.inside.tally ≡ c.args.self.now.work = ap (λ (t : Table). t.work) c.self.view_is in
    let within : g.T.Tally.counted c.self.inside.tally ≤ greatest = g.met.T.Tally.within c.self.inside.tally in
    omega (arith, was, within, c.tick.ensures)
