use Rattle.std.proofs.Common.{rules}
use Rattle.cad_map.proofs.Boundaries.Looks.{view_face-some, view_face-none}
use Rattle.cad_map.proofs.plain.PlainMapMapView.face_of.Goals as goal

pub returns-clause-some : goal.returns-clause-some
returns-clause-some c = view_face-some (c.args.from, c.args.to) c.args.self.now.boundaries c.face_with.result (search rules)

pub returns-clause-none : goal.returns-clause-none
returns-clause-none c = view_face-none (c.args.from, c.args.to) c.args.self.now.boundaries c.face_with.result (search rules)
