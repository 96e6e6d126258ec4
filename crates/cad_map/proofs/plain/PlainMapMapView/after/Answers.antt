use Rattle.std.proofs.Common.{rules}
use Rattle.cad_map.proofs.Boundaries.Looks.{view_next-some, view_next-none}
use Rattle.cad_map.proofs.plain.PlainMapMapView.after.Goals as goal

pub returns-clause-some : goal.returns-clause-some
returns-clause-some c = view_next-some (c.args.from, c.args.to) c.args.self.now.boundaries c.point_after.result (search rules)

pub returns-clause-none : goal.returns-clause-none
returns-clause-none c = view_next-none (c.args.from, c.args.to) c.args.self.now.boundaries (search rules) c.point_after.result (search rules)
