use Rattle.std.proofs.Common.{sym, arith}
use Rattle.cad_rings.specs.Cycle.{corners_of}
use Rattle.cad_rings.specs.Surgery.{corner}
use Rattle.cad_map.proofs.Lists.Elements.{Contains-flat_map}
use Rattle.cad_map.proofs.look.point_before.Goals as goal

pub returns-in-Some-clause-some : goal.returns-in-Some-clause-some
returns-in-Some-clause-some c =
    Contains-flat_map (λ b. corners_of b.ring) c.args.boundaries.now c.boundary-item.result (corner c.in-Some.before c.args.from c.args.to)
    (c.loop-boundary.boundary-index, omega arith, sym c.boundary-item.is) c.in-Some.ensures.some
